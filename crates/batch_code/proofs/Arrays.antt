-- A pass over the rows of an array's indexes and of the value put.
use Rattle.std.proofs.Common.{◌≡◌, ℕ, zero, suc, ◌<◌, ◌≤◌, List, length, refl, ap, subst, ◌∙◌, arith}
use Rattle.std.specs.Prelude.{slice_index, slice_set}
use Rattle.batch_rows.specs.Rights.{IsAtomRow}
use Rattle.lane_rows.specs.Values.{value_at}
use Rattle.lane_rows.specs.Words.{words_after, IsReadUpTo, AreInside}
use Rattle.batch_rows.specs.declared.module_code.WordRead.{WordRead}
use Rattle.batch_rows.specs.declared.module_code.WordPut.{WordPut}
use Rattle.batch_code.specs.Rows.{atom_at, words_put, KeepsArray}

module _ (rows : List (List ℕ)) (p : WordPut) (count : ℕ) (words index value : List ℕ) (indexes : IsAtomRow rows p.index count index) (values : IsAtomRow rows p.value count value) where
  pub words_same : (t : ℕ) → t ≤ count → words_after words index value t ≡ words_put rows p words t
  words_same zero l = refl
  words_same (suc t) l =
      let before : words_after words index value t ≡ words_put rows p words t = words_same t (omega (arith, l)) in
      let here : t < count = omega (arith, l) in
      ap (λ ws. slice_set ws (slice_index index t) (slice_index value t)) before
      ∙ ap (λ i. slice_set (words_put rows p words t) i (slice_index value t)) (indexes t here)
      ∙ ap (λ v. slice_set (words_put rows p words t) (atom_at rows t p.index) v) (values t here)

  pub array_is_kept : (r : WordRead) (to read : List ℕ) → IsAtomRow rows r.index count read → AreInside count read (length words) → AreInside count index (length words) → IsReadUpTo count words to read index value →
      ((t : ℕ) → t < count → value_at rows t r.target ≡ slice_index to t) → KeepsArray rows count words r p
  array_is_kept r to read reads inside puts is same = record {
    read_inside = λ t l. subst (λ (i : ℕ). i < length words) (reads t l) (inside t l);
    put_inside = λ t l. subst (λ (i : ℕ). i < length words) (indexes t l) (puts t l);
    row = λ t l. same t l ∙ is t l ∙ ap (λ (ws : List ℕ). slice_index ws (slice_index read t)) (words_same t (omega (arith, l))) ∙ ap (λ i. slice_index (words_put rows p words t) i) (reads t l);
  }
