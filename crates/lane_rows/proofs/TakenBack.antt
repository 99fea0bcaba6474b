-- Writes that are taken back.
use Rattle.std.proofs.Common.{◌≡◌, ℕ, zero, suc, ◌+◌, ◌-◌, ◌<◌, List, [], ◌∷◌, ap, refl, ◌∙◌, arith}
use Rattle.std.specs.Prelude.{slice_index, slice_set}
use Rattle.std.proofs.lemmas.List.{set-get_or}
use Rattle.lane_rows.specs.Words.{words_after, IsReadUpTo}

set_again : (xs : List ℕ) (i a b : ℕ) → slice_set (slice_set xs i a) i b ≡ slice_set xs i b
set_again [] i a b = refl
set_again (x ∷ xs) zero a b = refl
set_again (x ∷ xs) (suc i) a b = ap (λ t. x ∷ t) (set_again xs i a b)

pub one_back : (before index value lost words : List ℕ) (n done : ℕ) → done < n → words ≡ words_after before index value (n - done) → IsReadUpTo n before lost index index value → slice_set words (slice_index index (n - 1 - done)) (slice_index lost (n - 1 - done)) ≡ words_after before index value (n - (done + 1))
one_back before index value lost words n done l is kept =
    let t : ℕ = n - 1 - done in
    let now : n - done ≡ suc t = omega (arith, l) in
    let then' : t ≡ n - (done + 1) = omega (arith, l) in
    let i : ℕ = slice_index index t in
    let old : List ℕ = words_after before index value t in
    let here : slice_index lost t ≡ slice_index old i = kept t (omega (arith, l)) in
    ap (λ ws. slice_set ws i (slice_index lost t)) (is ∙ ap (λ k. words_after before index value k) now) ∙ set_again old i (slice_index value t) (slice_index lost t) ∙ ap (λ x. slice_set old i x) here ∙ set-get_or old i 0 ∙ ap (λ k. words_after before index value k) then'
