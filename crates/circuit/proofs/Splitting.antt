-- Ages that make a finer chain, and the taps of the ages that are read among its nets.
use Rattle.std.proofs.Common.{◌≡◌, ℕ, zero, suc, ◌+◌, ◌<◌, ◌≤◌, Bool, true, false, List, [], ◌∷◌, ◌++◌, length, drop, Some, refl, sym, ap, subst, ◌∙◌, inl, inr, arith}
use Rattle.std.specs.Prelude.{◌==◌, ◌&&◌, ◌||◌, not, nat_lt, IsTrue, Contains, slice_get, slice_index, slice_index_or, if◌then◌else◌}
use Rattle.std.specs.List.{list_all, list_any}
use Rattle.std.specs.List.Sorted.{IsStrictlyIncreasing}
use Rattle.std.proofs.lemmas.Bool.{eqb-true}
use Rattle.std.proofs.lemmas.Option.{slice_get_within, slice_get-get_or, same_Some}
use Rattle.wiring.specs.declared.netlist.Net.{Net}
use Rattle.wiring.specs.Netlist.{Netlist, net_width}
use Rattle.wiring.specs.Snapshot.{Contents, IsNext, net_value}
use Rattle.wiring.specs.History.{was_reset, is_held, counted}
use Rattle.wiring.proofs.Search.{at_push}
use Rattle.net_build.specs.Draft.{IsNet}
use Rattle.net_build.specs.Runs.{InEachRun}
use Rattle.net_build.proofs.Control.{is_none, copy_cases}
use Rattle.buffer_plan.specs.Plans.{Plan, place_in, ages_of}
use Rattle.buffer_plan.proofs.Aged.{are_ages}
use Rattle.buffer_plan.proofs.Distinct.{one_of, none_in}
use Rattle.line_buffer.specs.Places as L
use Rattle.line_buffer.specs.Places.{Place, word_at}
use Rattle.line_buffer.specs.Streams.{IsPixel, BufferIsRight}
use Rattle.line_buffer.specs.Buffers.{IsBuffer}
use Rattle.line_buffer.specs.Chains.{AreMadeOfShort}
use Rattle.line_buffer.proofs.More.{and_left, and_right, is_lt, lt_is}
use Rattle.circuit.specs.Splits.{ascends, has_age, is_finer, split_ages, IsFiner, IsTapAmong, AreTapsAmong}

-- ages that ascend, one after another
not_lt : (a b : ℕ) → b ≤ a → nat_lt a b ≡ false
not_lt a b h = grind arith

pub ascend_step : (low : ℕ) (xs : List ℕ) (k : ℕ) → k < length xs → low < slice_index xs k → ascends low (drop k xs) ≡ ascends (slice_index xs k) (drop (k + 1) xs)
ascend_step low [] k l up = absurd (omega (arith, l))
ascend_step low (x ∷ xs) zero l up = ap (λ (t : Bool). t && ascends x xs) (lt_is low x up)
ascend_step low (x ∷ xs) (suc k) l up =
    ascend_step low xs k (omega (arith, l)) up
    ∙ ap (λ (j : ℕ). ascends (slice_index xs k) (drop j (x ∷ xs))) (let e : suc (k + 1) ≡ suc k + 1 = omega arith in e)

pub ascend_stop : (low : ℕ) (xs : List ℕ) (k : ℕ) → k < length xs → slice_index xs k ≤ low → ascends low (drop k xs) ≡ false
ascend_stop low [] k l down = absurd (omega (arith, l))
ascend_stop low (x ∷ xs) zero l down = ap (λ (t : Bool). t && ascends x xs) (not_lt low x down)
ascend_stop low (x ∷ xs) (suc k) l down = ascend_stop low xs k (omega (arith, l)) down

pub ascend_end : (low : ℕ) (xs : List ℕ) (k : ℕ) → length xs ≤ k → ascends low (drop k xs) ≡ true
ascend_end low [] zero l = refl
ascend_end low [] (suc k) l = refl
ascend_end low (x ∷ xs) zero l = absurd (omega (arith, l))
ascend_end low (x ∷ xs) (suc k) l = ascend_end low xs k (omega (arith, l))

first_above : (low : ℕ) (xs : List ℕ) → ascends low xs ≡ true → 0 < length xs → low < slice_index xs 0
first_above low [] up some = absurd (omega (arith, some))
first_above low (x ∷ xs) up some = is_lt low x (and_left (nat_lt low x) (ascends x xs) up)

pub ascend_rises : (low : ℕ) (xs : List ℕ) → ascends low xs ≡ true → IsStrictlyIncreasing xs
ascend_rises low [] up k l = absurd (omega (arith, l))
ascend_rises low (x ∷ xs) up zero l = first_above x xs (and_right (nat_lt low x) (ascends x xs) up) (omega (arith, l))
ascend_rises low (x ∷ xs) up (suc k) l =
    subst (λ (j : ℕ). slice_index xs k < slice_index (x ∷ xs) j) (let e : suc (k + 1) ≡ suc k + 1 = omega arith in e)
    (ascend_rises x xs (and_right (nat_lt low x) (ascends x xs) up) k (omega (arith, l)))

-- whether an age is among these
pub among_yes : (split : List ℕ) (age : ℕ) → Contains split age → list_any (λ (x : ℕ). x == age) split ≡ true
among_yes split age has = by (list_any (λ (x : ℕ). x == age) split) (is_none split age has)
  where
    by : (t : Bool) → (IsTrue (not t) → ⊥) → t ≡ true
    by true none = refl
    by false none = absurd (none refl)

pub among_no : (split : List ℕ) (age : ℕ) → (Contains split age → ⊥) → list_any (λ (x : ℕ). x == age) split ≡ false
among_no split age none = elim (copy_cases split age) as (λ _. list_any (λ (x : ℕ). x == age) split ≡ false) [
  | inl has ↦ absurd (none has)
  | inr free ↦ by (list_any (λ (x : ℕ). x == age) split) free
]
  where
    by : (t : Bool) → IsTrue (not t) → t ≡ false
    by true h = sym h
    by false h = refl

pub at_in : {X : Type 0} (xs : List X) (k : ℕ) (x : X) → slice_get xs k ≡ Some x → Contains xs x
at_in xs k x e = (k, slice_get_within xs k x e, same_Some (slice_index_or xs k x) x (sym (slice_get-get_or xs k x (slice_get_within xs k x e)) ∙ e))

pub age_there : (ages : List ℕ) (k d : ℕ) → k < length ages → slice_index_or ages k d ≡ slice_index_or ages k 0
age_there [] k d l = absurd (omega (arith, l))
age_there (x ∷ ages) zero d l = refl
age_there (x ∷ ages) (suc k) d l = age_there ages k d (omega (arith, l))

not_zero : (age : ℕ) → (age ≡ 0 → ⊥) → (age == 0) ≡ false
not_zero zero none = absurd (none refl)
not_zero (suc age) none = grind arith

pub has_yes : (split : List ℕ) (age k : ℕ) → (age ≡ 0 → ⊥) → slice_get split k ≡ Some age → true ≡ has_age split age
has_yes split age k some e = sym (ap (λ (t : Bool). t || list_any (λ (x : ℕ). x == age) split) (not_zero age some) ∙ among_yes split age (at_in split k age e))

pub has_no : (split : List ℕ) (age : ℕ) → (age ≡ 0 → ⊥) → (Contains split age → ⊥) → false ≡ has_age split age
has_no split age some none = sym (ap (λ (t : Bool). t || list_any (λ (x : ℕ). x == age) split) (not_zero age some) ∙ among_no split age none)

among_of : (split : List ℕ) (age : ℕ) → has_age split age ≡ true → 0 < age → Contains split age
among_of split age has some = elim (copy_cases split age) as (λ _. Contains split age) [
  | inl is ↦ is
  | inr free ↦ absurd (by (list_any (λ (x : ℕ). x == age) split) free (sym (ap (λ (t : Bool). t || list_any (λ (x : ℕ). x == age) split) (not_zero age (λ e. omega (arith, e, some)))) ∙ has))
]
  where
    by : (t : Bool) → IsTrue (not t) → t ≡ true → ⊥
    by true h e = (let f : false ≡ true = h in cc)
    by false h e = cc

all_of : {X : Type 0} (p : X → Bool) (xs : List X) (x : X) → list_all p xs ≡ true → Contains xs x → p x ≡ true
all_of p [] x all has = absurd (none_in x has)
all_of p (y ∷ xs) x all has = elim (one_of y xs x has) as (λ _. p x ≡ true) [
  | inl e ↦ subst (λ z. p z ≡ true) e (and_left (p y) (list_all p xs) all)
  | inr more ↦ all_of p xs x (and_right (p y) (list_all p xs) all) more
]

-- the greatest age is the last
pub last_at : (low : ℕ) (xs : List ℕ) (k : ℕ) → k + 1 ≡ length xs → L.last_of low xs ≡ slice_index xs k
last_at low [] k e = absurd (omega (arith, e))
last_at low (x ∷ []) zero e = refl
last_at low (x ∷ []) (suc k) e = absurd (omega (arith, e))
last_at low (x ∷ (y ∷ xs)) zero e = absurd (omega (arith, e))
last_at low (x ∷ (y ∷ xs)) (suc k) e = last_at x (y ∷ xs) k (let f : k + 1 ≡ length (y ∷ xs) = omega (arith, e) in f)

pub last_none : (low : ℕ) (xs : List ℕ) → length xs ≡ 0 → L.last_of low xs ≡ low
last_none low [] e = refl
last_none low (x ∷ xs) e = absurd (omega (arith, e))

-- ages that pass the test make a finer chain, and so do the ages that are read
pub finer_is : (ages split : List ℕ) → is_finer ages split ≡ true → IsFiner ages split
finer_is ages split is =
    let rest : (list_all (has_age split) ages && L.depth_of split == L.depth_of ages) ≡ true = and_right (ascends 0 split) (list_all (has_age split) ages && L.depth_of split == L.depth_of ages) is in
    record {
      ascending = ascend_rises 0 split (and_left (ascends 0 split) (list_all (has_age split) ages && L.depth_of split == L.depth_of ages) is);
      among = λ age has some. among_of split age (all_of (has_age split) ages age (and_left (list_all (has_age split) ages) (L.depth_of split == L.depth_of ages) rest) has) some;
      last = eqb-true (L.depth_of split) (L.depth_of ages) (and_right (list_all (has_age split) ages) (L.depth_of split == L.depth_of ages) rest);
    }

finer_same : (ages : List ℕ) → IsStrictlyIncreasing ages → IsFiner ages ages
finer_same ages up = record { ascending = up; among = λ age has some. has; last = refl }

pub split_finer : (proposed : List (List ℕ)) (plan : Plan) (g : ℕ) → IsFiner (ages_of plan g) (split_ages proposed plan g)
unfolding split_ages
split_finer proposed plan g = by (is_finer (ages_of plan g) split) refl
  where
    split : List ℕ
    split = slice_index_or proposed (place_in plan g) []

    by : (t : Bool) → is_finer (ages_of plan g) (slice_index_or proposed (place_in plan g) []) ≡ t → IsFiner (ages_of plan g) (if t then slice_index_or proposed (place_in plan g) [] else ages_of plan g)
    by true e = finer_is (ages_of plan g) (slice_index_or proposed (place_in plan g) []) e
    by false e = finer_same (ages_of plan g) (are_ages plan g).ascending

pub split_yes : (proposed : List (List ℕ)) (plan : Plan) (g : ℕ) (ages split : List ℕ) → ages ≡ ages_of plan g → split ≡ slice_index_or proposed (place_in plan g) [] → is_finer ages split ≡ true → split ≡ split_ages proposed plan g
unfolding split_ages
split_yes proposed plan g ages split aged at is =
    let there : List ℕ = slice_index_or proposed (place_in plan g) [] in
    let finer : is_finer (ages_of plan g) there ≡ true = subst (λ (xs : List ℕ). is_finer xs there ≡ true) aged (subst (λ (xs : List ℕ). is_finer ages xs ≡ true) at is) in
    at ∙ sym (ap (λ (t : Bool). if t then there else ages_of plan g) finer)

pub split_no : (proposed : List (List ℕ)) (plan : Plan) (g : ℕ) (ages split : List ℕ) → ages ≡ ages_of plan g → split ≡ slice_index_or proposed (place_in plan g) [] → is_finer ages split ≡ false → ages ≡ split_ages proposed plan g
unfolding split_ages
split_no proposed plan g ages split aged at is =
    let there : List ℕ = slice_index_or proposed (place_in plan g) [] in
    let finer : is_finer (ages_of plan g) there ≡ false = subst (λ (xs : List ℕ). is_finer xs there ≡ false) aged (subst (λ (xs : List ℕ). is_finer ages xs ≡ false) at is) in
    aged ∙ sym (ap (λ (t : Bool). if t then there else ages_of plan g) finer)

pub finer_of : (proposed : List (List ℕ)) (plan : Plan) (g : ℕ) (split : List ℕ) → split ≡ split_ages proposed plan g → IsFiner (ages_of plan g) split
finer_of proposed plan g split e = subst (IsFiner (ages_of plan g)) (sym e) (split_finer proposed plan g)

-- one tap more
pub taps_push : (ages split : List ℕ) (nets : List Net) (value : Net) (taps : List Net) (age : ℕ) (tap : Net) → slice_get ages (length taps) ≡ Some age → ((k a : ℕ) (t : Net) → slice_get ages k ≡ Some a → slice_get taps k ≡ Some t → IsTapAmong split nets value a t) → IsTapAmong split nets value age tap →
    (k a : ℕ) (t : Net) → slice_get ages k ≡ Some a → slice_get (taps ++ tap ∷ []) k ≡ Some t → IsTapAmong split nets value a t
taps_push ages split nets value taps age tap here each is k a t ea et = elim (at_push taps tap t k et) as (λ _. IsTapAmong split nets value a t) [
  | inl before ↦ each k a t ea before
  | inr last ↦ subst (λ (x : ℕ). IsTapAmong split nets value x t) (same_Some age a (sym here ∙ ap (slice_get ages) (sym last.0) ∙ ea)) (subst (IsTapAmong split nets value age) last.1 is)
]

-- the buffer over the ages that are read, of that over more
module _ (b : Netlist) (copies : List ℕ) (place : (age t : ℕ) → Place) (ages split : List ℕ) (nets taps : List Net) (value : Net) (finer : IsFiner ages split) (among : AreTapsAmong ages split nets value taps) where
  -- a tap is the image's net, or one of the finer chain's
  tap_is : (P : Net → Type 0) → P value → ((k : ℕ) (net : Net) → slice_get nets k ≡ Some net → P net) → (k : ℕ) (tap : Net) → slice_get taps k ≡ Some tap → P tap
  tap_is P own each k tap at = by age refl
    where
      age : ℕ
      age = slice_index ages k

      aged : slice_get ages k ≡ Some age
      aged = slice_get-get_or ages k 0 (let within = slice_get_within taps k tap at in let long = among.one_each in let l : k < length ages = omega (arith, within, long) in l)

      by : (a : ℕ) → age ≡ a → P tap
      by zero e = subst P (sym ((among.each k age tap aged at).now e)) own
      by (suc a) e = (let (j, there, is) = (among.each k age tap aged at).later (let l : 0 < age = omega (arith, e) in l) in each j tap is)

  pub finer_buffer : IsNet b value → IsBuffer b copies place split nets value → IsBuffer b copies place ages taps value
  finer_buffer own is = record {
    one_each = among.one_each;
    net = tap_is (IsNet b) own is.net;
    width = tap_is (λ n. net_width b n ≡ net_width b value) refl is.width;
    now = λ k tap ea et. (among.each k 0 tap ea et).now refl;
    word = λ k age tap ea some et. (let (j, there, tapped) = (among.each k age tap ea et).later some in is.word j age tap there some tapped);
    goes_on = subst (λ (deep : ℕ). (pixel : ℕ → ℕ) (count delay : ℕ) →
        InEachRun b (λ m before c s. IsTrue (was_reset before) → c.reset ≡ false → is_held m c ≡ false → (next : Contents) → IsNext m s next →
        BufferIsRight (λ age t. word_at s.contents (place age t)) pixel count delay deep (length (counted m before)) → IsPixel pixel count delay (length (counted m before)) (net_value s value) →
        BufferIsRight (λ age t. word_at next (place age t)) pixel count delay deep (suc (length (counted m before))))) finer.last is.goes_on;
    waits = λ m from before c s clock ready held next is_next age t some deep. is.waits m from before c s clock ready held next is_next age t some (let last = finer.last in let l : age ≤ L.depth_of split = omega (arith, deep, last) in l);
  }

  pub finer_made : (long : (words : ℕ) → Bool) (most first end : ℕ) → AreMadeOfShort long b most first end split nets → AreMadeOfShort long b most first end ages taps
  finer_made long most first end is k age tap ea some et = (let (j, there, tapped) = (among.each k age tap ea et).later some in is j age tap there some tapped)
