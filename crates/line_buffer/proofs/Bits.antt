-- The bits of a buffer's arrays.
use Rattle.std.proofs.Common.{◌≡◌, ℕ, zero, suc, ◌+◌, ◌-◌, ◌*◌, ◌<◌, Bool, List, [], ◌∷◌, ap, ◌∙◌, arith}
use Rattle.std.specs.Prelude.{nat_eq, if◌then◌else◌}
use Rattle.std.specs.List.Sorted.{IsStrictlyIncreasing}
use Rattle.wiring.specs.BufferBits.{array_bits}
use Rattle.line_buffer.specs.Places.{last_of, later, depth_of, Ascend, segment_shapes, ring_shapes, chain_shapes}
use Rattle.line_buffer.proofs.Ages.{later_ascends, later_depth}
use Rattle.line_buffer.proofs.Rotations.{no_eq}

pub ring_bits : (width : ℕ) (ages : List ℕ) → array_bits (ring_shapes width ages) ≡ width * depth_of ages
ring_bits width ages = by (depth_of ages)
  where
    by : (d : ℕ) → array_bits (if nat_eq d 0 then [] else (record { width = width; depth = d }) ∷ []) ≡ width * d
    by zero = (let e : 0 ≡ width * 0 = omega arith in e)
    by (suc d) = ap (λ (h : Bool). array_bits (if h then [] else (record { width = width; depth = suc d }) ∷ [])) (no_eq (suc d) 0 (λ e. omega (arith, e))) ∙ (let e : width * suc d + 0 ≡ width * suc d = omega arith in e)

split : (w low high : ℕ) → low < high → w * high ≡ w * (high - low) + w * low
split w low high rises = (let e : high ≡ (high - low) + low = omega (arith, rises) in ap (λ (h : ℕ). w * h) e ∙ (let f : w * ((high - low) + low) ≡ w * (high - low) + w * low = omega arith in f))

segment_bits : (width low : ℕ) (ages : List ℕ) → Ascend low ages → array_bits (segment_shapes width low ages) + width * low ≡ width * last_of low ages
segment_bits width low [] up = (let e : 0 + width * low ≡ width * low = omega arith in e)
segment_bits width low (high ∷ ages) up =
    let rest : array_bits (segment_shapes width high ages) + width * high ≡ width * last_of high ages = segment_bits width high ages up.1 in
    let here : width * high ≡ width * (high - low) + width * low = split width low high up.0 in
    let goal : width * (high - low) + array_bits (segment_shapes width high ages) + width * low ≡ width * last_of high ages = omega (arith, rest, here) in
    goal

pub chain_bits : (width : ℕ) (ages : List ℕ) → IsStrictlyIncreasing ages → array_bits (chain_shapes width ages) ≡ width * depth_of ages
chain_bits width ages up =
    let all : array_bits (chain_shapes width ages) + width * 0 ≡ width * last_of 0 (later ages) = segment_bits width 0 (later ages) (later_ascends ages up) in
    let e : array_bits (chain_shapes width ages) ≡ width * last_of 0 (later ages) = omega (arith, all) in
    e ∙ ap (λ (d : ℕ). width * d) (later_depth ages)
