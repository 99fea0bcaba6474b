-- Places in lists.
use Rattle.std.proofs.Common.{◌≡◌, ℕ, zero, suc, ◌<◌, ◌≤◌, List, [], ◌∷◌, length, take, drop, slice_get, slice_index_or, Some, refl, arith}

-- there is an entry at each place of a list
pub entry : {A : Type 0} (xs : List A) (k : ℕ) → k < length xs → (x : A) × (slice_get xs k ≡ Some x)
entry [] k lt = absurd (omega (arith, lt))
entry (x ∷ xs) zero lt = (x, refl)
entry (x ∷ xs) (suc k) lt = entry xs k (omega (arith, lt))

-- past the end there is the default
pub past_end : {A : Type 0} (xs : List A) (g : ℕ) (d : A) → length xs ≤ g → slice_index_or xs g d ≡ d
past_end [] g d h = refl
past_end (x ∷ xs) zero d h = absurd (omega (arith, h))
past_end (x ∷ xs) (suc g) d h = past_end xs g d (omega (arith, h))

-- and nothing is left
pub none_left : {A : Type 0} (xs : List A) (k : ℕ) → length xs ≤ k → drop k xs ≡ []
none_left [] zero h = refl
none_left [] (suc k) h = refl
none_left (x ∷ xs) zero h = absurd (omega (arith, h))
none_left (x ∷ xs) (suc k) h = none_left xs k (omega (arith, h))

pub length-taken : {A : Type 0} (n : ℕ) (xs : List A) → length (take n xs) ≤ n
length-taken zero [] = omega arith
length-taken zero (x ∷ xs) = omega arith
length-taken (suc n) [] = omega arith
length-taken (suc n) (x ∷ xs) = let l = length-taken n xs in omega (arith, l)
