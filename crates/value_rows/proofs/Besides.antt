-- What is beside a row.
use Rattle.std.proofs.Common.{map, ◌≡◌, ◌∙◌, sym, ℕ, suc, ◌+◌, ◌-◌, ◌<◌, ◌≤◌, List, length, get_or, ℤ, pos, negsuc, ◌+ℤ◌, ◌≤ℤ◌, ◌<ℤ◌, unsigned_abs, arith, refl, inl, inr, ap}
use Rattle.std.proofs.lemmas.Bool.{cases_lt}
use Rattle.std.proofs.lemmas.Int.{ints}
use Rattle.std.proofs.lemmas.List.{length-map, get_or-map}
use Rattle.pointwise_ir.specs.declared.expr.Edge.{Edge}
use Rattle.pointwise_ir.specs.declared.expr.Edge.TheVariants.{Zero, Clamp}
use Rattle.value_rows.specs.Rows.{entry, end_of, beside}

-- in the row
pub beside_in : (edge : Edge) (row : List ℤ) (n : ℕ) → n < length row → beside edge row (pos n) ≡ entry row n
beside_in Zero row n lt = grind arith
beside_in Clamp row n lt = grind arith

-- to its right
pub beside_right : (edge : Edge) (row : List ℤ) (n last : ℕ) → last + 1 ≡ length row → length row ≤ n → beside edge row (pos n) ≡ end_of edge (entry row last)
beside_right Zero row n last is ge = grind arith
beside_right Clamp row n last is ge = grind arith

-- to its left
pub beside_left : (edge : Edge) (row : List ℤ) (n : ℕ) → beside edge row (negsuc n) ≡ end_of edge (entry row 0)
beside_left Zero row n = refl
beside_left Clamp row n = refl

-- a row that is read to the right
right_row : (edge : Edge) (from new : List ℤ) (z : ℤ) (columns : ℕ) → pos 0 ≤ℤ z → (unsigned_abs z ≤ length from → columns ≡ unsigned_abs z) → (length from ≤ unsigned_abs z → columns ≡ length from) →
    ((x : ℕ) → x + columns < length from → entry new x ≡ entry from (x + columns)) →
    ((x last : ℕ) → last + 1 ≡ length from → x < length from → length from ≤ x + columns → entry new x ≡ end_of edge (entry from last)) →
    (x : ℕ) → x < length from → entry new x ≡ beside edge from (pos x +ℤ z)
right_row edge from new (negsuc n) columns ge near far inside outside x lt = absurd (omega (arith, ints, ge))
right_row edge from new (pos n) columns ge near far inside outside x lt = elim (cases_lt (x + n) (length from)) [
  | inl low ↦
      let same : columns ≡ n = near (omega (arith, low)) in
      inside x (omega (arith, same, low)) ∙ ap (λ c. entry from (x + c)) same ∙ sym (beside_in edge from (x + n) low)
  | inr high ↦
      let last : length from - 1 + 1 ≡ length from = omega (arith, lt) in
      let reach : length from ≤ x + columns = elim (cases_lt n (length from)) [
        | inl less ↦ (let same : columns ≡ n = near (omega (arith, less)) in omega (arith, same, high))
        | inr more ↦ (let same : columns ≡ length from = far more in omega (arith, same))
      ] in
      outside x (length from - 1) last lt reach ∙ sym (beside_right edge from (x + n) (length from - 1) last high)
]

-- a row that is read to the left
left_row : (edge : Edge) (from new : List ℤ) (z : ℤ) (columns : ℕ) → z <ℤ pos 0 → (unsigned_abs z ≤ length from → columns ≡ unsigned_abs z) → (length from ≤ unsigned_abs z → columns ≡ length from) →
    ((x : ℕ) → x + columns < length from → entry new (x + columns) ≡ entry from x) →
    ((x : ℕ) → x < columns → entry new x ≡ end_of edge (entry from 0)) →
    (x : ℕ) → x < length from → entry new x ≡ beside edge from (pos x +ℤ z)
left_row edge from new (pos n) columns lt near far inside outside x within = absurd (omega (arith, ints, lt))
left_row edge from new (negsuc n) columns lt near far inside outside x within = elim (cases_lt x (n + 1)) [
  | inl low ↦
      let e : pos x +ℤ negsuc n ≡ negsuc (n - x) = omega (arith, ints, low) in
      let reach : x < columns = elim (cases_lt (length from) (n + 1)) [
        | inl less ↦ (let same : columns ≡ length from = far (omega (arith, less)) in omega (arith, same, within))
        | inr more ↦ (let same : columns ≡ suc n = near (omega (arith, more)) in omega (arith, same, low))
      ] in
      outside x reach ∙ sym (beside_left edge from (n - x)) ∙ ap (beside edge from) (sym e)
  | inr high ↦
      let same : columns ≡ suc n = near (omega (arith, high, within)) in
      let e : pos x +ℤ negsuc n ≡ pos (x - (n + 1)) = omega (arith, ints, high) in
      let there : x ≡ x - (n + 1) + columns = omega (arith, same, high) in
      let inner : x - (n + 1) + columns < length from = omega (arith, there, within) in
      let row : x - (n + 1) < length from = omega (arith, within) in
      ap (entry new) there ∙ inside (x - (n + 1)) inner ∙ sym (beside_in edge from (x - (n + 1)) row) ∙ ap (beside edge from) (sym e)
]

-- the same of elements
pub right_elements : {A B : Type 0} (worth : A → ℤ) (value : B → ℤ) (edge : Edge) (from : List A) (new : List B) (z : ℤ) (columns : ℕ) → pos 0 ≤ℤ z → (unsigned_abs z ≤ length from → columns ≡ unsigned_abs z) → (length from ≤ unsigned_abs z → columns ≡ length from) →
    ((x : ℕ) → x + columns < length from → entry (map value new) x ≡ entry (map worth from) (x + columns)) →
    ((x last : ℕ) → last + 1 ≡ length from → x < length from → length from ≤ x + columns → entry (map value new) x ≡ end_of edge (entry (map worth from) last)) →
    (x : ℕ) → x < length from → entry (map value new) x ≡ beside edge (map worth from) (pos x +ℤ z)
right_elements worth value edge from new z columns = rw (length-map from worth) at (right_row edge (map worth from) (map value new) z columns)

pub left_elements : {A B : Type 0} (worth : A → ℤ) (value : B → ℤ) (edge : Edge) (from : List A) (new : List B) (z : ℤ) (columns : ℕ) → z <ℤ pos 0 → (unsigned_abs z ≤ length from → columns ≡ unsigned_abs z) → (length from ≤ unsigned_abs z → columns ≡ length from) →
    ((x : ℕ) → x + columns < length from → entry (map value new) (x + columns) ≡ entry (map worth from) x) →
    ((x : ℕ) → x < columns → entry (map value new) x ≡ end_of edge (entry (map worth from) 0)) →
    (x : ℕ) → x < length from → entry (map value new) x ≡ beside edge (map worth from) (pos x +ℤ z)
left_elements worth value edge from new z columns = rw (length-map from worth) at (left_row edge (map worth from) (map value new) z columns)

-- an element as a value
pub element_entry : {A : Type 0} (worth : A → ℤ) (s : List A) (i : ℕ) (d : A) → i < length s → worth (get_or s i d) ≡ entry (map worth s) i
element_entry worth s i d lt = sym (get_or-map worth s i d (pos 0) lt)
