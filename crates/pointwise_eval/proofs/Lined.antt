-- Rows of operators, from the rows of their operands.
use Rattle.std.proofs.Common.{◌≡◌, ◌∙◌, sym, ap, subst, ℕ, ◌<◌, List, length, map, ℤ, pos, arith}
use Rattle.std.proofs.lemmas.List.{length-map}
use Rattle.dk_base.specs.declared.ty.Ty.{Ty}
use Rattle.dk_base.specs.Types.{IsIn}
use Rattle.dk_base.specs.Operators.{select_value}
use Rattle.dk_base.specs.Frames.{Size, Picture}
use Rattle.value_rows.specs.Rows.{entry, IsRow}

module _ {A : Type 0} (worth : A → ℤ) (size : Size) (y : ℤ) where
  -- a place of a row is a column
  column : (picture : Picture) (row : List A) → IsRow size picture y (map worth row) → (k : ℕ) → k < length row → k < size.width
  column picture row is k lt =
      let long : length (map worth row) ≡ length row = length-map row worth in
      let whole = is.whole in
      omega (arith, lt, long, whole)

  place : (picture : Picture) (row : List A) → IsRow size picture y (map worth row) → (k : ℕ) → k < size.width → k < length row
  place picture row is k lt =
      let long : length (map worth row) ≡ length row = length-map row worth in
      let whole = is.whole in
      omega (arith, lt, long, whole)

  as_long : (picture : Picture) (row new : List A) → IsRow size picture y (map worth row) → length new ≡ length row → length (map worth new) ≡ size.width
  as_long picture row new is same = length-map new worth ∙ same ∙ sym (length-map row worth) ∙ is.whole

  -- an operator of one row: its values are of the type, and they are those of the picture
  pub one_fits : (t : Ty) (f : ℤ → ℤ) (picture : Picture) (row : List A) → IsRow size picture y (map worth row) → ((x z : ℤ) → IsIn t (f (picture x z))) → (k : ℕ) → k < length row → IsIn t (f (entry (map worth row) k))
  one_fits t f picture row is all k lt = subst (λ v. IsIn t (f v)) (sym (is.values k (column picture row is k lt))) (all (pos k) y)

  pub one_row : (f : ℤ → ℤ) (picture : Picture) (row new : List A) → IsRow size picture y (map worth row) → length new ≡ length row → ((k : ℕ) → k < length row → entry (map worth new) k ≡ f (entry (map worth row) k)) →
      IsRow size (λ x z. f (picture x z)) y (map worth new)
  one_row f picture row new is same made = record {
    whole = as_long picture row new is same;
    values = λ k lt. made k (place picture row is k lt) ∙ ap f (is.values k lt);
  }

  -- an operator of two rows
  pub two_fit : (t : Ty) (f : ℤ → ℤ → ℤ) (left right : Picture) (row other : List A) → IsRow size left y (map worth row) → IsRow size right y (map worth other) → ((x z : ℤ) → IsIn t (f (left x z) (right x z))) → (k : ℕ) → k < length row →
      IsIn t (f (entry (map worth row) k) (entry (map worth other) k))
  two_fit t f left right row other is also all k lt =
      let within = column left row is k lt in
      subst (λ v. IsIn t (f v (entry (map worth other) k))) (sym (is.values k within)) (subst (λ u. IsIn t (f (left (pos k) y) u)) (sym (also.values k within)) (all (pos k) y))

  pub two_rows : (f : ℤ → ℤ → ℤ) (left right : Picture) (row other new : List A) → IsRow size left y (map worth row) → IsRow size right y (map worth other) → length new ≡ length row →
      ((k : ℕ) → k < length row → entry (map worth new) k ≡ f (entry (map worth row) k) (entry (map worth other) k)) → IsRow size (λ x z. f (left x z) (right x z)) y (map worth new)
  two_rows f left right row other new is also same made = record {
    whole = as_long left row new is same;
    values = λ k lt. made k (place left row is k lt) ∙ ap (λ v. f v (entry (map worth other) k)) (is.values k lt) ∙ ap (f (left (pos k) y)) (also.values k lt);
  }

  -- a choice between two rows by a third one
  pub chosen_row : (condition left right : Picture) (row first second new : List A) → IsRow size condition y (map worth row) → IsRow size left y (map worth first) → IsRow size right y (map worth second) → length new ≡ length row →
      ((k : ℕ) → k < length row → entry (map worth new) k ≡ select_value (entry (map worth row) k) (entry (map worth first) k) (entry (map worth second) k)) → IsRow size (λ x z. select_value (condition x z) (left x z) (right x z)) y (map worth new)
  chosen_row condition left right row first second new is one other same made = record {
    whole = as_long condition row new is same;
    values = λ k lt. made k (place condition row is k lt) ∙ ap (λ v. select_value v (entry (map worth first) k) (entry (map worth second) k)) (is.values k lt)
        ∙ ap (λ v. select_value (condition (pos k) y) v (entry (map worth second) k)) (one.values k lt) ∙ ap (select_value (condition (pos k) y) (left (pos k) y)) (other.values k lt);
  }
