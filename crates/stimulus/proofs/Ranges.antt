-- Lists that are made place by place over a range.
use Rattle.std.proofs.Common.{◌≡◌, ℕ, zero, suc, ◌+◌, ◌<◌, List, [], ◌∷◌, ◌++◌, map, refl, ap, sym, ◌∙◌, arith, append_assoc, append-nil, take, Some}
use Rattle.std.specs.Prelude.{slice_get}
use Rattle.std.specs.List.{flat_map, range_with_len}

-- one number more
pub flat_more : {X : Type 0} (f : ℕ → List X) (a n : ℕ) → flat_map f (range_with_len a (n + 1)) ≡ flat_map f (range_with_len a n) ++ f (a + n)
flat_more f a n = ap (λ k. flat_map f (range_with_len a k)) (let e : n + 1 ≡ suc n = omega arith in e) ∙ more f a n
  where
    more : {X : Type 0} (f : ℕ → List X) (a n : ℕ) → flat_map f (range_with_len a (suc n)) ≡ flat_map f (range_with_len a n) ++ f (a + n)
    more f a zero = append-nil (f a) ∙ ap f (let e : a ≡ a + 0 = omega arith in e)
    more f a (suc n) = ap (λ z. f a ++ z) (more f (a + 1) n ∙ ap (λ k. flat_map f (range_with_len (a + 1) n) ++ f k) (let e : a + 1 + n ≡ a + suc n = omega arith in e)) ∙ sym (append_assoc (f a) (flat_map f (range_with_len (a + 1) n)) (f (a + suc n)))

-- the whole, cut after number k
pub flat_cut : {X : Type 0} (f : ℕ → List X) (a k more : ℕ) → flat_map f (range_with_len a (k + suc more)) ≡ flat_map f (range_with_len a k) ++ (f (a + k) ++ flat_map f (range_with_len (a + k + 1) more))
flat_cut f a zero more = ap (λ z. flat_map f (range_with_len a z)) (let e : 0 + suc more ≡ suc more = omega arith in e) ∙ ap (λ z. f z ++ flat_map f (range_with_len (z + 1) more)) (let e : a ≡ a + 0 = omega arith in e)
flat_cut f a (suc k) more =
    ap (λ z. flat_map f (range_with_len a z)) (let e : suc k + suc more ≡ suc (k + suc more) = omega arith in e)
    ∙ ap (λ z. f a ++ z) (flat_cut f (a + 1) k more ∙ ap (λ z. flat_map f (range_with_len (a + 1) k) ++ (f z ++ flat_map f (range_with_len (z + 1) more))) (let e : a + 1 + k ≡ a + suc k = omega arith in e))
    ∙ sym (append_assoc (f a) (flat_map f (range_with_len (a + 1) k)) (f (a + suc k) ++ flat_map f (range_with_len (a + suc k + 1) more)))

-- the same at each number
pub same_map : {X : Type 0} (f g : ℕ → X) (a n : ℕ) → ((k : ℕ) → k < n → f (a + k) ≡ g (a + k)) → map f (range_with_len a n) ≡ map g (range_with_len a n)
same_map f g a zero h = refl
same_map f g a (suc n) h =
    let first : f a ≡ g a = ap f (let e : a ≡ a + 0 = omega arith in e) ∙ h 0 (omega arith) ∙ ap g (let e : a + 0 ≡ a = omega arith in e) in
    ap (λ z. z ∷ map f (range_with_len (a + 1) n)) first
    ∙ ap (λ z. g a ∷ z) (same_map f g (a + 1) n (λ k l. ap f (let e : a + 1 + k ≡ a + suc k = omega arith in e) ∙ h (suc k) (omega (arith, l)) ∙ ap g (let e : a + suc k ≡ a + 1 + k = omega arith in e)))

pub same_flat : {X : Type 0} (f g : ℕ → List X) (a n : ℕ) → ((k : ℕ) → k < n → f (a + k) ≡ g (a + k)) → flat_map f (range_with_len a n) ≡ flat_map g (range_with_len a n)
same_flat f g a zero h = refl
same_flat f g a (suc n) h =
    let first : f a ≡ g a = ap f (let e : a ≡ a + 0 = omega arith in e) ∙ h 0 (omega arith) ∙ ap g (let e : a + 0 ≡ a = omega arith in e) in
    ap (λ z. z ++ flat_map f (range_with_len (a + 1) n)) first
    ∙ ap (λ z. g a ++ z) (same_flat f g (a + 1) n (λ k l. ap f (let e : a + 1 + k ≡ a + suc k = omega arith in e) ∙ h (suc k) (omega (arith, l)) ∙ ap g (let e : a + suc k ≡ a + 1 + k = omega arith in e)))

-- one item more
pub map_more : {X Y : Type 0} (f : X → Y) (xs : List X) (i : ℕ) (x : X) → slice_get xs i ≡ Some x → map f (take (i + 1) xs) ≡ map f (take i xs) ++ f x ∷ []
map_more f [] i x e = absurd (let z : ⊥ = cc in z)
map_more f (y ∷ xs) zero x e = let s : y ≡ x = cc in ap (λ z. f z ∷ []) s
map_more f (y ∷ xs) (suc i) x e = ap (λ n. map f (take n (y ∷ xs))) (let d : suc i + 1 ≡ suc (i + 1) = omega arith in d) ∙ ap (λ z. f y ∷ z) (map_more f xs i x e)
