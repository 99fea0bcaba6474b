-- The bits of a netlist's registers.
use Rattle.std.proofs.Common.{◌≡◌, ℕ, ◌+◌, ◌<◌, ◌==◌, Bool, false, [], ◌∷◌, ◌++◌, ap, ◌∙◌, arith}
use Rattle.std.specs.Prelude.{if◌then◌else◌, sum}
use Rattle.std.proofs.lemmas.List.Sums.{sum_by_push, sum_by-append}
use Rattle.dk_base.specs.Numbers.{bit_count}
use Rattle.wiring.specs.Netlist.{Netlist}
use Rattle.net_build.specs.Registers.{register_bits, count_bits}

pub bits_same : (new old : Netlist) → new.regs ≡ old.regs → register_bits new ≡ register_bits old
bits_same new old e = ap sum e

pub bits_more : (new old : Netlist) (width : ℕ) → new.regs ≡ old.regs ++ width ∷ [] → register_bits new ≡ register_bits old + width
bits_more new old width e = ap sum e ∙ sum_by_push (λ (x : ℕ). x) old.regs width

pub bits_two_more : (new old : Netlist) (first second : ℕ) → new.regs ≡ old.regs ++ first ∷ (second ∷ []) → register_bits new ≡ register_bits old + (first + second)
bits_two_more new old first second e = ap sum e ∙ sum_by-append (λ (x : ℕ). x) old.regs (first ∷ (second ∷ [])) ∙ (let h : register_bits old + (0 + first + second) ≡ register_bits old + (first + second) = omega arith in h)

-- a count that stays at 0 has no register
pub no_count : (last : ℕ) → last ≡ 0 → count_bits last ≡ 0
no_count last e = ap (λ (n : ℕ). if n == 0 then 0 else bit_count n) e

pub some_count : (last : ℕ) → 0 < last → count_bits last ≡ bit_count last
some_count last some = ap (λ (b : Bool). if b then 0 else bit_count last) (let e : (last == 0) ≡ false = grind (arith, some) in e)
