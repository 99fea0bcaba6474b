-- The reads of one image, which are together.
use Rattle.std.proofs.Common.{◌≡◌, ◌<◌, ◌≤◌, ℕ, suc, ◌+◌, ◌-◌, ◌==◌, Bool, true, false, List, [], ◌∷◌, ◌++◌, length, take, drop, slice_index_or, ltb, leb, refl, ap, sym, subst, get_or-take, ◌∙◌, arith, inl, inr}
use Rattle.std.specs.Prelude.{filter}
use Rattle.std.specs.List.Sorted.{IsPartitionPoint, IsNonDecreasingBy}
use Rattle.std.proofs.lemmas.Bool.{cases_lt, cases_eq}
use Rattle.std.proofs.lemmas.Bool.Decides.{nat_tests}
use Rattle.std.proofs.lemmas.List.{take-append-drop, length-take-le, length-drop, get_or-drop, append-nil, get_or_append_left, get_or-append_right}
use Rattle.std.proofs.lemmas.List.Elements.{filter-append}
use Rattle.dk_base.specs.declared.stencils.LiveRead.{LiveRead}
use Rattle.dk_base.specs.Stencils.{AreInOrder}
use Rattle.buffer_plan.specs.Plans.{reads_by}

-- a filter that takes all, and one that takes nothing
filter_all : {X : Type 0} (p : X → Bool) (xs : List X) → ((k : ℕ) (d : X) → k < length xs → p (slice_index_or xs k d) ≡ true) → filter p xs ≡ xs
filter_all p [] h = refl
filter_all p (x ∷ xs) h = rw (h 0 x (omega arith)) (ap (λ ys. x ∷ ys) (filter_all p xs (λ k d lt. h (suc k) d (omega arith))))

filter_none : {X : Type 0} (p : X → Bool) (xs : List X) → ((k : ℕ) (d : X) → k < length xs → p (slice_index_or xs k d) ≡ false) → filter p xs ≡ []
filter_none p [] h = refl
filter_none p (x ∷ xs) h = rw (h 0 x (omega arith)) (filter_none p xs (λ k d lt. h (suc k) d (omega arith)))

below_only : (a f : ℕ) → (a < f → ⊥) → a ≤ f → (a == f) ≡ true
below_only a f low high = grind (arith, nat_tests)

less_false : (a f : ℕ) → a < f → (a == f) ≡ false
less_false a f h = grind (arith, nat_tests)

more_false : (a f : ℕ) → f < a → (a == f) ≡ false
more_false a f h = grind (arith, nat_tests)

test_less : (a f : ℕ) → ltb a f ≡ true → a < f
test_less a f h = grind (arith, nat_tests)

test_not_less : (a f : ℕ) → ltb a f ≡ false → a < f → ⊥
test_not_less a f h lt = grind (arith, nat_tests)

test_le : (a f : ℕ) → leb a f ≡ true → a ≤ f
test_le a f h = grind (arith, nat_tests)

test_not_le : (a f : ℕ) → leb a f ≡ false → f < a
test_not_le a f h = grind (arith, nat_tests)

pub readers_rise : (reads : List LiveRead) → AreInOrder reads → IsNonDecreasingBy (λ r. r.f) reads
readers_rise reads order i j d le lt = elim (cases_eq i j) [
  | inl e ↦ omega (arith, ap (λ k. (slice_index_or reads k d).f) e)
  | inr ne ↦ (order i j d (omega arith) lt).reader
]

-- the reads between the first that is not of an earlier image and the first that is of a later one
module _ (reads rest : List LiveRead) (f start count : ℕ) (rest_is : rest ≡ drop start reads) (within : start ≤ length reads) (inside : count ≤ length rest)
    (first : IsPartitionPoint (λ r. ltb r.f f ≡ true) (λ r. ltb r.f f ≡ false) reads start)
    (second : IsPartitionPoint (λ r. leb r.f f ≡ true) (λ r. leb r.f f ≡ false) rest count) where
  before : filter (λ r. r.f == f) (take start reads) ≡ []
  before = filter_none (λ r. r.f == f) (take start reads) (λ k d lt.
      let h : k < start = omega (arith, length-take-le start reads within) in
      rw (get_or-take start reads k d h) (less_false (slice_index_or reads k d).f f (test_less (slice_index_or reads k d).f f (first.0 k d (omega arith) h))))

  at_rest : (k : ℕ) (d : LiveRead) → slice_index_or rest k d ≡ slice_index_or reads (start + k) d
  at_rest k d = ap (λ xs. slice_index_or xs k d) rest_is ∙ get_or-drop start reads k d

  long : length rest ≡ length reads - start
  long = ap length rest_is ∙ length-drop start reads

  own : filter (λ r. r.f == f) (take count rest) ≡ take count rest
  own = filter_all (λ r. r.f == f) (take count rest) (λ k d lt.
      let h : k < count = omega (arith, length-take-le count rest inside) in
      let not_less = test_not_less (slice_index_or reads (start + k) d).f f (first.1 (start + k) d (omega arith) (omega (arith, h, inside, long))) in
      let same = ap (λ (r : LiveRead). r.f) (at_rest k d) in
      rw (get_or-take count rest k d h)
      (below_only (slice_index_or rest k d).f f (λ lt. not_less (omega (arith, same, lt))) (test_le (slice_index_or rest k d).f f (second.0 k d (omega arith) h))))

  after : filter (λ r. r.f == f) (drop count rest) ≡ []
  after = filter_none (λ r. r.f == f) (drop count rest) (λ k d lt.
      let h : count + k < length rest = omega (arith, lt, length-drop count rest) in
      rw (get_or-drop count rest k d) (more_false (slice_index_or rest (count + k) d).f f (test_not_le (slice_index_or rest (count + k) d).f f (second.1 (count + k) d (omega arith) h))))

  pub own_reads : take count rest ≡ reads_by f reads
  own_reads = sym (
      ap (filter (λ r. r.f == f)) (sym (take-append-drop start reads))
      ∙ filter-append (λ r. r.f == f) (take start reads) (drop start reads)
      ∙ ap (λ xs. xs ++ filter (λ r. r.f == f) (drop start reads)) before
      ∙ ap (filter (λ r. r.f == f)) (sym rest_is ∙ sym (take-append-drop count rest))
      ∙ filter-append (λ r. r.f == f) (take count rest) (drop count rest)
      ∙ ap (λ xs. xs ++ filter (λ r. r.f == f) (drop count rest)) own
      ∙ ap (λ xs. take count rest ++ xs) after
      ∙ append-nil (take count rest)
      )

-- one list more, each with what it is to be at its place
pub one_list_more : (P : ℕ → List ℕ → Type 0) (old : List (List ℕ)) (i : ℕ) (x : List ℕ) → length old ≡ i → ((k : ℕ) → k < i → P k (slice_index_or old k [])) → P i x
    → (k : ℕ) → k < i + 1 → P k (slice_index_or (old ++ x ∷ []) k [])
one_list_more P old i x size before here k h = elim (cases_lt k i) [
  | inl low ↦ subst (P k) (sym (get_or_append_left old (x ∷ []) [] k (omega (arith, low, size)))) (before k low)
  | inr high ↦
      let e : i ≡ k = omega (arith, h, high) in
      let first : i - i ≡ 0 = omega arith in
      subst (λ j. P j (slice_index_or (old ++ x ∷ []) j [])) e
      (subst (P i) (sym (get_or-append_right old (x ∷ []) i i [] size (omega arith) ∙ ap (λ j. slice_index_or (x ∷ []) j []) first)) here)
]
