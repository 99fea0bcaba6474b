-- Rows of numbers of a lane, as rows of numbers.
use Rattle.std.proofs.Common.{◌≡◌, ◌∙◌, sym, ap, subst, ℕ, zero, suc, ◌+◌, ◌%◌, ◌^◌, ◌<◌, ◌≤◌, List, [], ◌∷◌, ◌++◌, refl, length, map, get_or, slice_set, arith, inl, inr}
use Rattle.std.specs.Prelude.{slice_index, slice_index_or, ◌≢◌, take, bit_and}
use Rattle.std.proofs.lemmas.Bool.{cases_lt}
use Rattle.std.proofs.lemmas.Nat.{and_le_r}
use Rattle.std.proofs.Math.Nat.{mod-le}
use Rattle.std.proofs.lemmas.List.{length-map, get_or-map, map-set, get_or-set_same, get_or-set_other, set-get_or}
use Rattle.std.proofs.lemmas.Grind.{get_or-set_at}

-- one number more is in its place
pub one_more : {A : Type 0} (value : A → ℕ) (to : List A) (k : ℕ) (v : A) (f : ℕ → ℕ) → k < length to → value v ≡ f k → ((j : ℕ) → j < k → slice_index (map value to) j ≡ f j) →
    (j : ℕ) → j < k + 1 → slice_index (map value (slice_set to k v)) j ≡ f j
one_more value to k v f lt is before j below = ap (λ l. slice_index l j) (map-set value to k v) ∙ elim (cases_lt j k) [
  | inl low ↦ get_or-set_other (map value to) k j (value v) 0 (λ e. omega (arith, low, e)) ∙ before j low
  | inr high ↦
      let here : j ≡ k = omega (arith, high, below) in
      get_or-set_at (map value to) k j (value v) 0 here (rw (length-map to value) lt) ∙ is ∙ ap f (sym here)
]

-- what each number is, one number more is too
pub each_more : {A : Type 0} (value : A → ℕ) (is : ℕ → Type 0) (to : List A) (k : ℕ) (v : A) → k < length to → is (value v) → ((j : ℕ) → j < k → is (slice_index (map value to) j)) →
    (j : ℕ) → j < k + 1 → is (slice_index (map value (slice_set to k v)) j)
each_more value is to k v lt new before j below = subst (λ (l : List ℕ). is (slice_index l j)) (sym (map-set value to k v)) (elim (cases_lt j k) [
  | inl low ↦ subst is (sym (get_or-set_other (map value to) k j (value v) 0 (λ e. omega (arith, low, e)))) (before j low)
  | inr high ↦
      let here : j ≡ k = omega (arith, high, below) in
      subst is (sym (get_or-set_at (map value to) k j (value v) 0 here (rw (length-map to value) lt))) new
])

-- a number that is read
pub read_is : {A : Type 0} (value : A → ℕ) (row : List A) (k : ℕ) (v : A) → k < length row → v ≡ get_or row k v → value v ≡ slice_index (map value row) k
read_is value row k v lt got = ap value got ∙ sym (get_or-map value row k v 0 lt)

-- a place of a row is one of its numbers
pub in_row : {A : Type 0} (value : A → ℕ) (row : List A) (t : ℕ) → t < length row → t < length (map value row)
in_row value row t l = rw (length-map row value) l

-- numbers that are their own values
pub map_same : (xs : List ℕ) → map (λ (x : ℕ). x) xs ≡ xs
map_same [] = refl
map_same (x ∷ xs) = ap (λ t. x ∷ t) (map_same xs)

-- a number of the first part of a row
pub first_part : {A : Type 0} (value : A → ℕ) (xs ys : List A) (t : ℕ) → t < length xs → slice_index (map value (xs ++ ys)) t ≡ slice_index (map value xs) t
first_part value [] ys t l = absurd (omega (arith, l))
first_part value (x ∷ xs) ys zero l = refl
first_part value (x ∷ xs) ys (suc t) l = first_part value xs ys t (omega (arith, l))

-- a number of the first ones of a row
pub first_taken : {A : Type 0} (value : A → ℕ) (xs : List A) (n t : ℕ) → t < n → slice_index (map value (take n xs)) t ≡ slice_index (map value xs) t
first_taken value xs zero t l = absurd (omega (arith, l))
first_taken value [] (suc n) t l = refl
first_taken value (x ∷ xs) (suc n) zero l = refl
first_taken value (x ∷ xs) (suc n) (suc t) l = first_taken value xs n t (omega (arith, l))

-- a row that is put into a place
pub placed : {A : Type 0} (values : A → List ℕ) (rows : List A) (n : ℕ) (row : A) → n < length rows → slice_index_or (map values (slice_set rows n row)) n [] ≡ values row
placed values rows n row l =
    let long : length (map values rows) ≡ length rows = length-map rows values in
    ap (λ ls. slice_index_or ls n []) (map-set values rows n row) ∙ get_or-set_same (map values rows) n (values row) [] (omega (arith, l, long))

pub placed_other : {A : Type 0} (values : A → List ℕ) (rows : List A) (n k : ℕ) (row : A) → k ≢ n → slice_index_or (map values (slice_set rows n row)) k [] ≡ slice_index_or (map values rows) k []
placed_other values rows n k row apart = ap (λ ls. slice_index_or ls k []) (map-set values rows n row) ∙ get_or-set_other (map values rows) n k (values row) [] apart

-- one that has as many bits as that before it
pub placed_same : {A : Type 0} (bits : A → ℕ) (rows : List A) (n : ℕ) (row old : A) → n < length rows → old ≡ get_or rows n old → bits row ≡ bits old → map bits (slice_set rows n row) ≡ map bits rows
placed_same bits rows n row old l was same =
    map-set bits rows n row ∙ ap (λ b. slice_set (map bits rows) n b) (same ∙ read_is bits rows n old l was) ∙ set-get_or (map bits rows) n 0

-- a number with no bits above a mask that is cut to a lane
pub trimmed_is : (x n m mask bits : ℕ) → x ≡ bit_and n m → m ≡ mask % 2 ^ bits → x ≤ mask
trimmed_is x n m mask bits e f = omega (arith, e, f, and_le_r n m, mod-le mask (2 ^ bits))
