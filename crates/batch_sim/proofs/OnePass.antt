-- Passes over the rows of an array.
use Rattle.std.proofs.Common.{◌≡◌, ℕ, zero, suc, ◌<◌, Bool, List, [], ◌∷◌, length, take, refl, ap, sym, subst, ◌∙◌, arith}
use Rattle.std.specs.Prelude.{◌≢◌, slice_index, slice_index_or, slice_set}
use Rattle.std.proofs.lemmas.List.{get_or-take, length-set}
use Rattle.wiring.specs.declared.right.Atom.{Atom}
use Rattle.batch_rows.specs.Rights.{IsAtomRow}
use Rattle.lane_rows.specs.Words.{words_after, IsReadUpTo, AreInside}
use Rattle.batch_rows.specs.declared.module_code.WordRead.{WordRead}
use Rattle.batch_rows.specs.declared.module_code.WordPut.{WordPut}
use Rattle.batch_code.specs.Rows.{atom_at, words_put, KeepsArray}
use Rattle.batch_code.proofs.Arrays.{words_same, array_is_kept}
use Rattle.lane_rows.specs.Values.{numbers_in}
use Rattle.batch_sim.specs.declared.judge.arrays.AccessNumbers.{AccessNumbers}
use Rattle.batch_sim.specs.Arrays.{AreAccessNumbers, IsPassed, TriesArray, PassesArray, WasLost, TakesBack, PutsInside}

module _ (rows : List (List ℕ)) (r : WordRead) (p : WordPut) (count : ℕ) (old new lost reads indexes values target : List ℕ) (passed : IsPassed old new lost reads indexes values target count)
    (index : IsAtomRow rows p.index count indexes) (value : IsAtomRow rows p.value count values) where
  pub passed_kept : IsAtomRow rows r.index count reads → ((t : ℕ) → t < count → slice_index target t ≡ slice_index (slice_index_or rows r.target []) t) → KeepsArray rows count old r p
  passed_kept read e = array_is_kept rows p count old indexes values index value r passed.to reads read passed.reads passed.writes passed.row (λ t l. sym (e t l) ∙ passed.same t l)

  pub passed_words : new ≡ words_put rows p old count
  passed_words = passed.words ∙ words_same rows p count old indexes values index value count (omega arith)

  pub passed_lost : WasLost rows p old lost count
  passed_lost t l first = passed.lost_row t l first ∙ ap (λ (ws : List ℕ). slice_index ws (slice_index indexes t)) (words_same rows p count old indexes values index value t (omega (arith, l))) ∙ ap (λ i. slice_index (words_put rows p old t) i) (index t l)

-- what take_back asks, from the rows
pub lost_read : (rows : List (List ℕ)) (p : WordPut) (count : ℕ) (before lost front indexes values : List ℕ) → IsAtomRow rows p.index count indexes → IsAtomRow rows p.value count values → ((t : ℕ) → t < count → slice_index front t ≡ slice_index lost t) →
    length before ≢ 1 → WasLost rows p before lost count → IsReadUpTo count before front indexes indexes values
lost_read rows p count before lost front indexes values index value same several was t l =
    same t l ∙ was t l (λ one. absurd (several one)) ∙ sym (ap (λ (ws : List ℕ). slice_index ws (slice_index indexes t)) (words_same rows p count before indexes values index value t (omega (arith, l))) ∙ ap (λ i. slice_index (words_put rows p before t) i) (index t l))

pub puts_inside : (rows : List (List ℕ)) (p : WordPut) (count depth : ℕ) (indexes : List ℕ) → IsAtomRow rows p.index count indexes → PutsInside rows p count depth → AreInside count indexes depth
puts_inside rows p count depth indexes index inside t l = subst (λ (i : ℕ). i < depth) (sym (index t l)) (inside t l)

pub undone : (rows : List (List ℕ)) (p : WordPut) (count : ℕ) (before words new lost indexes values : List ℕ) → IsAtomRow rows p.index count indexes → IsAtomRow rows p.value count values → length indexes ≡ count → length words ≢ 1 →
    words ≡ words_put rows p before count → length words ≡ length before → WasLost rows p before lost count → PutsInside rows p count (length words) →
    ((b v : List ℕ) → words ≡ words_after b indexes v (length indexes) → AreInside (length indexes) indexes (length b) → IsReadUpTo (length indexes) b (take count lost) indexes indexes v → new ≡ b) → new ≡ before
undone rows p count before words new lost indexes values index value long several put same was inside taken =
    taken before values
    (put ∙ sym (words_same rows p count before indexes values index value count (omega arith)) ∙ ap (λ n. words_after before indexes values n) (sym long))
    (λ t l. subst (λ (n : ℕ). slice_index indexes t < n) same (puts_inside rows p count (length words) indexes index inside t (omega (arith, l, long))))
    (λ t l. lost_read rows p count before lost (take count lost) indexes values index value (λ s m. get_or-take count lost s 0 m) (λ one. several (same ∙ one)) was t (omega (arith, l, long)))

-- what is shown of an array that was passed over its numbers
module _ (rows : List (List ℕ)) (r : WordRead) (p : WordPut) (count : ℕ) (a : AccessNumbers) (are : AreAccessNumbers rows count r p a) (old new lost reads : List ℕ) (read : IsAtomRow rows r.index count reads) where
  pub numbers_passed : (result : Bool) → TriesArray result old new lost count reads (numbers_in a.index) (numbers_in a.value) (numbers_in a.target) → PassesArray rows r p count result old new lost
  numbers_passed result tries = record {
    kept = λ yes. passed_kept rows r p count old new lost reads (numbers_in a.index) (numbers_in a.value) (numbers_in a.target) (tries.passed yes) are.index are.value read are.target;
    words = λ yes. passed_words rows r p count old new lost reads (numbers_in a.index) (numbers_in a.value) (numbers_in a.target) (tries.passed yes) are.index are.value;
    lost = λ yes. passed_lost rows r p count old new lost reads (numbers_in a.index) (numbers_in a.value) (numbers_in a.target) (tries.passed yes) are.index are.value;
    back = tries.back;
  }

-- where an array is read at the slot at which it is written
pub read_there : (rows : List (List ℕ)) (r : WordRead) (p : WordPut) (count : ℕ) (a : AccessNumbers) → AreAccessNumbers rows count r p a → r.index ≡ p.index → IsAtomRow rows r.index count (numbers_in a.index)
read_there rows r p count a are e = subst (λ (x : Atom ℕ). IsAtomRow rows x count (numbers_in a.index)) (sym e) are.index

-- a single word that is written at each clock holds what was written last
single_after : (words index value : List ℕ) (n : ℕ) → length words ≡ 1 → AreInside n index 1 → length (words_after words index value n) ≡ 1
single_after words index value zero one inside = one
single_after words index value (suc n) one inside = length-set (words_after words index value n) (slice_index index n) (slice_index value n) ∙ single_after words index value n one (λ t l. inside t (omega (arith, l)))

one_set : (ws : List ℕ) (i v : ℕ) → length ws ≡ 1 → i < 1 → slice_set ws i v ≡ v ∷ []
one_set [] i v one l = absurd (omega (arith, one))
one_set (w ∷ []) zero v one l = refl
one_set (w ∷ []) (suc i) v one l = absurd (omega (arith, l))
one_set (w ∷ (u ∷ ws)) i v one l = absurd (omega (arith, one))

pub single_last : (words index value : List ℕ) (n : ℕ) → length words ≡ 1 → AreInside (suc n) index 1 → words_after words index value (suc n) ≡ slice_index value n ∷ []
single_last words index value n one inside = one_set (words_after words index value n) (slice_index index n) (slice_index value n) (single_after words index value n one (λ t l. inside t (omega (arith, l)))) (inside n (omega arith))

module _ (words value target : List ℕ) (count : ℕ) (one : length words ≡ 1) (first : slice_index target 0 ≡ slice_index words 0) (later : (t : ℕ) → suc t < count → slice_index target (suc t) ≡ slice_index value t) where
  -- what is read of it is what it holds, and then what it was given a clock before
  single_read : (index : List ℕ) → AreInside count index 1 → (t : ℕ) → t < count → slice_index target t ≡ slice_index (words_after words index value t) (slice_index index t)
  single_read index inside zero l =
      let at : slice_index index 0 ≡ 0 = (let h = inside 0 l in omega (arith, h)) in
      first ∙ ap (λ i. slice_index words i) (sym at)
  single_read index inside (suc t) l =
      let at : slice_index index (suc t) ≡ 0 = (let h = inside (suc t) l in omega (arith, h)) in
      later t l ∙ sym (ap (λ (ws : List ℕ). slice_index ws (slice_index index (suc t))) (single_last words index value t one (λ s m. inside s (omega (arith, l, m)))) ∙ ap (λ i. slice_index (slice_index value t ∷ []) i) at)

  -- only the first write takes away what was there before all of them
  single_lost : (lost : List ℕ) → slice_index lost 0 ≡ slice_index words 0 → (index : List ℕ) → AreInside count index 1 → (t : ℕ) → t < count → t ≡ 0 → slice_index lost t ≡ slice_index (words_after words index value t) (slice_index index t)
  single_lost lost was index inside zero l e =
      let at : slice_index index 0 ≡ 0 = (let h = inside 0 l in omega (arith, h)) in
      was ∙ ap (λ i. slice_index words i) (sym at)
  single_lost lost was index inside (suc t) l e = absurd (omega (arith, e))

  pub single_passed : (new lost : List ℕ) (last : ℕ) → count ≡ suc last → slice_index lost 0 ≡ slice_index words 0 → new ≡ slice_set words 0 (slice_index value last) →
      (index : List ℕ) → AreInside count index 1 → IsPassed words new lost index index value target count
  single_passed new lost last e was is index inside = record {
    reads = λ t l. subst (λ (n : ℕ). slice_index index t < n) (sym one) (inside t l);
    writes = λ t l. subst (λ (n : ℕ). slice_index index t < n) (sym one) (inside t l);
    to = target;
    row = single_read index inside;
    same = λ t l. refl;
    words = is ∙ one_set words 0 (slice_index value last) one (omega arith) ∙ sym (single_last words index value last one (λ t l. inside t (omega (arith, e, l)))) ∙ ap (λ n. words_after words index value n) (sym e);
    lost_row = λ t l only. single_lost lost was index inside t l (only one);
  }

-- no clock leaves what it finds
pub none_passed : (words lost value target : List ℕ) (count : ℕ) → count ≡ 0 → (index : List ℕ) → AreInside count index 1 → IsPassed words words lost index index value target count
none_passed words lost value target count e index inside = record {
  reads = λ t l. absurd (omega (arith, e, l));
  writes = λ t l. absurd (omega (arith, e, l));
  to = target;
  row = λ t l. absurd (omega (arith, e, l));
  same = λ t l. refl;
  words = ap (λ n. words_after words index value n) (sym e);
  lost_row = λ t l only. absurd (omega (arith, e, l));
}

-- a single word is taken back by what the first put took away
one_is : (ws : List ℕ) → length ws ≡ 1 → slice_index ws 0 ∷ [] ≡ ws
one_is [] one = absurd (omega (arith, one))
one_is (w ∷ []) one = refl
one_is (w ∷ (u ∷ ws)) one = absurd (omega (arith, one))

pub single_undone : (rows : List (List ℕ)) (p : WordPut) (count : ℕ) (lost old new : List ℕ) → length old ≡ 1 → PutsInside rows p count (length old) → (count ≡ 0 → new ≡ old) → (0 < count → new ≡ slice_set old 0 (slice_index lost 0)) → TakesBack rows p count lost old new
single_undone rows p zero lost old new one inside none some before put same was = none refl ∙ put
single_undone rows p (suc n) lost old new one inside none some before put same was =
    let first : atom_at rows 0 p.index ≡ 0 = (let h = inside 0 (omega arith) in omega (arith, h, one)) in
    some (omega arith)
    ∙ one_set old 0 (slice_index lost 0) one (omega arith)
    ∙ ap (λ x. x ∷ []) (was 0 (omega arith) (λ _. refl) ∙ ap (λ i. slice_index before i) first)
    ∙ one_is before (sym same ∙ one)
