-- A row whose elements are written one after another.
use Rattle.std.proofs.Common.{◌≡◌, ◌≢◌, ◌∙◌, sym, ap, ℕ, ◌+◌, ◌<◌, ◌≤◌, List, length, map, ℤ, pos, get_or, slice_set, arith, inl, inr}
use Rattle.std.proofs.lemmas.Bool.{cases_lt}
use Rattle.std.proofs.lemmas.Grind.{get_or-set_at}
use Rattle.std.proofs.lemmas.List.{length-map, get_or-map, map-set, get_or-set_other}
use Rattle.value_rows.specs.Rows.{entry}

pub done_more : {A : Type 0} (worth : A → ℤ) (to : List A) (k : ℕ) (v : A) (f : ℕ → ℤ) → k < length to → worth v ≡ f k → ((j : ℕ) → j < k → entry (map worth to) j ≡ f j) →
    (j : ℕ) → j < k + 1 → entry (map worth (slice_set to k v)) j ≡ f j
done_more worth to k v f lt is before j below = ap (λ l. entry l j) (map-set worth to k v) ∙ elim (cases_lt j k) [
  | inl low ↦ get_or-set_other (map worth to) k j (worth v) (pos 0) (λ e. omega (arith, low, e)) ∙ before j low
  | inr high ↦
      let here : j ≡ k = omega (arith, high, below) in
      get_or-set_at (map worth to) k j (worth v) (pos 0) here (rw (length-map to worth) lt) ∙ is ∙ ap f (sym here)
]

pub rest_less : {A : Type 0} (worth : A → ℤ) (to : List A) (k : ℕ) (v : A) (f : ℕ → ℤ) → ((j : ℕ) → k ≤ j → entry (map worth to) j ≡ f j) →
    (j : ℕ) → k + 1 ≤ j → entry (map worth (slice_set to k v)) j ≡ f j
rest_less worth to k v f rest j le =
    ap (λ l. entry l j) (map-set worth to k v) ∙ get_or-set_other (map worth to) k j (worth v) (pos 0) (λ e. omega (arith, le, e)) ∙ rest j (omega (arith, le))

-- an element that is read
pub read_is : {A : Type 0} (worth : A → ℤ) (row : List A) (k : ℕ) (v : A) → k < length row → v ≡ get_or row k v → worth v ≡ entry (map worth row) k
read_is worth row k v lt got = ap worth got ∙ sym (get_or-map worth row k v (pos 0) lt)

-- places from a start on
pub part_more : {A : Type 0} (worth : A → ℤ) (to : List A) (start k : ℕ) (v : A) (f : ℕ → ℤ) → start + k < length to → worth v ≡ f k → ((j : ℕ) → j < k → entry (map worth to) (start + j) ≡ f j) →
    (j : ℕ) → j < k + 1 → entry (map worth (slice_set to (start + k) v)) (start + j) ≡ f j
part_more worth to start k v f lt is before j below = ap (λ l. entry l (start + j)) (map-set worth to (start + k) v) ∙ elim (cases_lt j k) [
  | inl low ↦ get_or-set_other (map worth to) (start + k) (start + j) (worth v) (pos 0) (λ e. omega (arith, low, e)) ∙ before j low
  | inr high ↦
      let here : j ≡ k = omega (arith, high, below) in
      get_or-set_at (map worth to) (start + k) (start + j) (worth v) (pos 0) (ap (λ n. start + n) here) (rw (length-map to worth) lt) ∙ is ∙ ap f (sym here)
]

-- one more of the places that have a value
pub filled_more : {A : Type 0} (worth : A → ℤ) (to : List A) (start k : ℕ) (v : A) (value : ℤ) → k < length to → worth v ≡ value → ((j : ℕ) → start ≤ j → j < k → entry (map worth to) j ≡ value) →
    (j : ℕ) → start ≤ j → j < k + 1 → entry (map worth (slice_set to k v)) j ≡ value
filled_more worth to start k v value lt is before j from below = ap (λ l. entry l j) (map-set worth to k v) ∙ elim (cases_lt j k) [
  | inl low ↦ get_or-set_other (map worth to) k j (worth v) (pos 0) (λ e. omega (arith, low, e)) ∙ before j from low
  | inr high ↦
      let here : j ≡ k = omega (arith, high, below) in
      get_or-set_at (map worth to) k j (worth v) (pos 0) here (rw (length-map to worth) lt) ∙ is
]

-- a place that is not written
pub kept_at : {A : Type 0} (worth : A → ℤ) (to : List A) (k j : ℕ) (v : A) (u : ℤ) → j ≢ k → entry (map worth to) j ≡ u → entry (map worth (slice_set to k v)) j ≡ u
kept_at worth to k j v u apart is = ap (λ l. entry l j) (map-set worth to k v) ∙ get_or-set_other (map worth to) k j (worth v) (pos 0) apart ∙ is
