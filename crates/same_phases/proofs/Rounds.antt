-- The phases of a round by their number.
use Rattle.std.proofs.Common.{◌≡◌, ℕ, zero, suc, ◌+◌, ◌-◌, ◌*◌, ◌<◌, ◌≤◌, List, [], ◌∷◌, length, map, pos, ap, ◌∙◌, arith, length-append}
use Rattle.std.specs.List.{range_with_len}
use Rattle.std.proofs.Math.ListN.{get_or-append}
use Rattle.std.proofs.Math.Seq.{get_or-append_right}
use Rattle.std.proofs.lemmas.List.FromFn.{length-map-range_with_len, get_or-map-range_with_len}
use Rattle.dk_base.specs.Frames.{Picture, picture_at}
use Rattle.same_phases.specs.Phases.{phase_of, phases_of}

-- the phases of one picture
abbrev each_phase : ℕ → Picture → List Picture
each_phase n picture = map (λ p. phase_of n p picture) (range_with_len 0 n)

pub length-phases : (n : ℕ) (round : List Picture) → length (phases_of n round) ≡ n * length round
length-phases n [] = omega arith
length-phases n (picture ∷ round) =
    let one = length-map-range_with_len (λ p. phase_of n p picture) 0 n in
    let rest = length-phases n round in
    let all = length-append (each_phase n picture) (phases_of n round) in
    omega (arith, one, rest, all)

pub phase_at : (n : ℕ) (round : List Picture) (k p : ℕ) → k < length round → p < n → picture_at (phases_of n round) (k * n + p) ≡ phase_of n p (picture_at round k)
phase_at n [] k p there lt = absurd (omega (arith, there))
phase_at n (picture ∷ round) zero p there lt =
    let one = length-map-range_with_len (λ p. phase_of n p picture) 0 n in
    ap (picture_at (phases_of n (picture ∷ round))) (let e : 0 * n + p ≡ p = omega arith in e)
    ∙ get_or-append (each_phase n picture) (phases_of n round) (λ _ _. pos 0) p (omega (arith, one, lt))
    ∙ get_or-map-range_with_len (λ p. phase_of n p picture) 0 n p p (λ _ _. pos 0) lt (omega arith)
phase_at n (picture ∷ round) (suc k) p there lt =
    let one : length (each_phase n picture) ≡ n = length-map-range_with_len (λ p. phase_of n p picture) 0 n in
    let past : length (each_phase n picture) ≤ suc k * n + p = omega (arith, one) in
    let place : suc k * n + p - length (each_phase n picture) ≡ k * n + p = omega (arith, one) in
    get_or-append_right (each_phase n picture) (phases_of n round) (suc k * n + p) (λ _ _. pos 0) past
    ∙ ap (picture_at (phases_of n round)) place ∙ phase_at n round k p (omega (arith, there)) lt
