-- Lists that are made place by place over a range.
use Rattle.std.proofs.Common.{◌≡◌, ℕ, zero, suc, ◌+◌, ◌<◌, List, ◌++◌, refl, ap, sym, ◌∙◌, arith, append_assoc, append-nil}
use Rattle.std.specs.List.{flat_map, range_with_len}

-- one number more
pub flat_more : {X : Type 0} (f : ℕ → List X) (a n : ℕ) → flat_map f (range_with_len a (n + 1)) ≡ flat_map f (range_with_len a n) ++ f (a + n)
flat_more f a n = ap (λ k. flat_map f (range_with_len a k)) (let e : n + 1 ≡ suc n = omega arith in e) ∙ more f a n
  where
    more : {X : Type 0} (f : ℕ → List X) (a n : ℕ) → flat_map f (range_with_len a (suc n)) ≡ flat_map f (range_with_len a n) ++ f (a + n)
    more f a zero = append-nil (f a) ∙ ap f (let e : a ≡ a + 0 = omega arith in e)
    more f a (suc n) = ap (λ z. f a ++ z) (more f (a + 1) n ∙ ap (λ k. flat_map f (range_with_len (a + 1) n) ++ f k) (let e : a + 1 + n ≡ a + suc n = omega arith in e)) ∙ sym (append_assoc (f a) (flat_map f (range_with_len (a + 1) n)) (f (a + suc n)))

-- the same at each number
pub same_flat : {X : Type 0} (f g : ℕ → List X) (a n : ℕ) → ((k : ℕ) → k < n → f (a + k) ≡ g (a + k)) → flat_map f (range_with_len a n) ≡ flat_map g (range_with_len a n)
same_flat f g a zero h = refl
same_flat f g a (suc n) h =
    let first : f a ≡ g a = ap f (let e : a ≡ a + 0 = omega arith in e) ∙ h 0 (omega arith) ∙ ap g (let e : a + 0 ≡ a = omega arith in e) in
    ap (λ z. z ++ flat_map f (range_with_len (a + 1) n)) first
    ∙ ap (λ z. g a ++ z) (same_flat f g (a + 1) n (λ k l. ap f (let e : a + 1 + k ≡ a + suc k = omega arith in e) ∙ h (suc k) (omega (arith, l)) ∙ ap g (let e : a + suc k ≡ a + 1 + k = omega arith in e)))
