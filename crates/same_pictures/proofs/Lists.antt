-- Lists by their entries.
use Rattle.std.proofs.Common.{◌≡◌, ℕ, suc, ◌<◌, List, [], ◌∷◌, length, Some, slice_get, refl, ap, arith, ◌∙◌}

-- lists of one length with the same entries are equal
pub equal_lists : {A : Type 0} (xs ys : List A) → length xs ≡ length ys → ((k : ℕ) → k < length xs → slice_get xs k ≡ slice_get ys k) → xs ≡ ys
equal_lists [] [] long same = refl
equal_lists [] (y ∷ ys) long same = absurd (let e : ⊥ = cc in e)
equal_lists (x ∷ xs) [] long same = absurd (let e : ⊥ = cc in e)
equal_lists (x ∷ xs) (y ∷ ys) long same =
    let head : Some x ≡ Some y = same 0 (omega arith) in
    let first : x ≡ y = cc in
    let rest : xs ≡ ys = equal_lists xs ys (omega (arith, long)) (λ k lt. same (suc k) (omega (arith, lt))) in
    ap (λ z. z ∷ xs) first ∙ ap (λ zs. y ∷ zs) rest
