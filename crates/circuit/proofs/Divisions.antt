-- The divided ages of an image make a finer chain than the ages that are read, so they are taken.
use Rattle.std.proofs.Common.{◌≡◌, ℕ, zero, suc, ◌+◌, ◌-◌, ◌<◌, ◌≤◌, Bool, true, false, List, [], ◌∷◌, ◌++◌, length, replicate, flat_map, Contains, refl, sym, ap, subst, ◌∙◌, ◌⊎◌, inl, inr, arith}
use Rattle.std.specs.Prelude.{◌==◌, ◌&&◌, ◌||◌, nat_lt, slice_index, slice_index_or, if◌then◌else◌}
use Rattle.std.specs.List.{AllZip, list_all, list_any}
use Rattle.std.specs.List.Sorted.{IsStrictlyIncreasing}
use Rattle.std.proofs.lemmas.Bool.{cases_lt}
use Rattle.dk_base.specs.declared.stencils.Image.{Image}
use Rattle.dk_base.proofs.Orders.{at_place}
use Rattle.buffer_plan.specs.Plans.{Plan, place_in, ages_of}
use Rattle.buffer_plan.proofs.Distinct.{same_tests}
use Rattle.line_buffer.specs.Places as L
use Rattle.line_buffer.proofs.More.{lt_is}
use Rattle.circuit.specs.Taps.{Keeps}
use Rattle.circuit.specs.Splits.{ascends, has_age, is_finer, split_ages}
use Rattle.circuit.specs.Divided.{segments, all_segments, AreArraysOf, by_memory, by_registers, by_array, ages_after, AreDivided, AreSplits}
use Rattle.circuit.proofs.Splitting.{among_yes}
use Rattle.circuit.proofs.Dividing.{total, arrays_total, after_more, tail_in, in_left, in_right}

-- ages that are not below the one before them
abbrev Up : (low : ℕ) → List ℕ → Type 0
Up low [] = Unit {0}
Up low (age ∷ ages) = (low ≤ age) × Up age ages

up_from : (low : ℕ) (ages : List ℕ) → IsStrictlyIncreasing ages → (0 < length ages → low ≤ slice_index ages 0) → Up low ages
up_from low [] up first = tt
up_from low (age ∷ ages) up first = (
  first (omega arith),
  up_from age ages (λ k l. let e : suc (k + 1) ≡ suc k + 1 = omega arith in subst (λ (j : ℕ). slice_index ages k < slice_index (age ∷ ages) j) (sym e) (up (suc k) (omega (arith, l)))) (λ some. let a = up 0 (omega (arith, some)) in omega (arith, a)),
)

-- each array has a word
abbrev EachSome : List ℕ → Type 0
EachSome [] = Unit {0}
EachSome (w ∷ words) = (0 < w) × EachSome words

each_some : (least : ℕ) (all : List ℕ) (words : ℕ) (arrays : List ℕ) → 0 < least → AreArraysOf least all words arrays → EachSome arrays
each_some least all words arrays some (by_memory shortest over near is) = subst EachSome (sym is) (let long = near.long in omega (arith, long, some), ones (words + 1 - shortest))
  where
    ones : (n : ℕ) → EachSome (replicate {A = ℕ} n 1)
    ones zero = tt
    ones (suc n) = (omega arith, ones n)
each_some least all words arrays some (by_registers few little is) = subst EachSome (sym is) (ones words)
  where
    ones : (n : ℕ) → EachSome (replicate {A = ℕ} n 1)
    ones zero = tt
    ones (suc n) = (omega arith, ones n)
each_some least all words arrays some (by_array few more is) = subst EachSome (sym is) (omega (arith, more), tt)

both_some : (xs ys : List ℕ) → EachSome xs → EachSome ys → EachSome (xs ++ ys)
both_some [] ys one other = other
both_some (x ∷ xs) ys one other = (one.0, both_some xs ys one.1 other)

-- the words of all arrays of a chain
abbrev joined : List (List ℕ) → List ℕ
joined arrays = flat_map (λ (words : List ℕ). words) arrays

all_some : (least : ℕ) (all : List ℕ) (words : List ℕ) (arrays : List (List ℕ)) → 0 < least → AllZip (AreArraysOf least all) words arrays → EachSome (joined arrays)
all_some least all [] [] some each = tt
all_some least all [] (a ∷ arrays) some each = absurd each
all_some least all (w ∷ words) [] some each = absurd each
all_some least all (w ∷ words) (a ∷ arrays) some each = both_some a (joined arrays) (each_some least all w a some each.0) (all_some least all words arrays some each.1)

after_ascends : (low : ℕ) (words : List ℕ) → EachSome words → ascends low (ages_after low words) ≡ true
after_ascends low [] some = refl
after_ascends low (w ∷ words) some =
    ap (λ (b : Bool). b && ascends (low + w) (ages_after (low + w) words)) (let up = some.0 in let here : nat_lt low (low + w) ≡ true = lt_is low (low + w) (omega (arith, up)) in here)
    ∙ after_ascends (low + w) words some.1

after_last : (low : ℕ) (words : List ℕ) → L.last_of low (ages_after low words) ≡ low + total words
after_last low [] = omega arith
after_last low (w ∷ words) = after_last (low + w) words ∙ (let e : low + w + total words ≡ low + (w + total words) = omega arith in e)

-- the last of arrays ends where they end together
after_end : (low : ℕ) (words : List ℕ) → 0 < total words → Contains (ages_after low words) (low + total words)
after_end low [] some = absurd (omega (arith, some))
after_end low (w ∷ words) some = elim (cases_lt 0 (total words)) as (λ _. Contains (ages_after low (w ∷ words)) (low + (w + total words))) [
  | inl more ↦ (let e : low + w + total words ≡ low + (w + total words) = omega arith in subst (Contains (ages_after low (w ∷ words))) e (tail_in (low + w) (ages_after (low + w) words) (low + w + total words) (after_end (low + w) words more)))
  | inr none ↦ (0, let low : 0 < suc (length (ages_after (low + w) words)) = omega arith in low, let e : low + w ≡ low + (w + total words) = omega (arith, none) in e)
]

total_both : (xs ys : List ℕ) → total (xs ++ ys) ≡ total xs + total ys
total_both [] ys = omega arith
total_both (x ∷ xs) ys = let rest = total_both xs ys in let e : x + total (xs ++ ys) ≡ x + total xs + total ys = omega (arith, rest) in e

segments_total : (least : ℕ) (all : List ℕ) (words : List ℕ) (arrays : List (List ℕ)) → AllZip (AreArraysOf least all) words arrays → total (joined arrays) ≡ total words
segments_total least all [] [] each = refl
segments_total least all [] (a ∷ arrays) each = absurd each
segments_total least all (w ∷ words) [] each = absurd each
segments_total least all (w ∷ words) (a ∷ arrays) each = let one = arrays_total least all w a each.0 in let rest = segments_total least all words arrays each.1 in total_both a (joined arrays) ∙ omega (arith, one, rest)

ages_last : (low : ℕ) (ages : List ℕ) → Up low ages → L.last_of low ages ≡ low + total (segments low ages)
ages_last low [] up = omega arith
ages_last low (age ∷ ages) up = let a = up.0 in ages_last age ages up.1 ∙ (let e : age + total (segments age ages) ≡ low + ((age - low) + total (segments age ages)) = omega (arith, a) in e)

-- each age is the first one, or comes out of an array
among_all : (least : ℕ) (all : List ℕ) (low : ℕ) (ages : List ℕ) (arrays : List (List ℕ)) → Up low ages → AllZip (AreArraysOf least all) (segments low ages) arrays
    → (age : ℕ) → Contains ages age → (age ≡ low) ⊎ Contains (ages_after low (joined arrays)) age
among_all least all low [] arrays up each age (k, l, is) = absurd (omega (arith, l))
among_all least all low (a ∷ ages) [] up each age has = absurd each
among_all least all low (a ∷ ages) (ws ∷ arrays) up each age has = by (among_all least all a ages arrays up.1 each.1 age) has
  where
    ends : low + total ws ≡ a
    ends = let t = arrays_total least all (a - low) ws each.0 in let le = up.0 in omega (arith, t, le)

    parts : ages_after low (ws ++ joined arrays) ≡ ages_after low ws ++ ages_after a (joined arrays)
    parts = after_more low ws (joined arrays) ∙ ap (λ (n : ℕ). ages_after low ws ++ ages_after n (joined arrays)) ends

    here : (n : ℕ) → n ≡ a → (n ≡ low) ⊎ Contains (ages_after low (ws ++ joined arrays)) n
    here n e = elim (cases_lt 0 (total ws)) as (λ _. (n ≡ low) ⊎ Contains (ages_after low (ws ++ joined arrays)) n) [
      | inl some ↦ inr (subst (λ (l : List ℕ). Contains l n) (sym parts) (in_left (ages_after low ws) (ages_after a (joined arrays)) n (subst (Contains (ages_after low ws)) (ends ∙ sym e) (after_end low ws some))))
      | inr none ↦ inl (e ∙ (let f : a ≡ low = omega (arith, ends, none) in f))
    ]

    later : (age ≡ a) ⊎ Contains (ages_after a (joined arrays)) age → (age ≡ low) ⊎ Contains (ages_after low (ws ++ joined arrays)) age
    later (inl e) = here age e
    later (inr more) = inr (subst (λ (l : List ℕ). Contains l age) (sym parts) (in_right (ages_after low ws) (ages_after a (joined arrays)) age more))

    by : (Contains ages age → (age ≡ a) ⊎ Contains (ages_after a (joined arrays)) age) → Contains (a ∷ ages) age → (age ≡ low) ⊎ Contains (ages_after low (ws ++ joined arrays)) age
    by tail (zero, l, is) = here age (sym is)
    by tail (suc k, l, is) = later (tail (k, omega (arith, l), is))

each_has : (split ages : List ℕ) → ((age : ℕ) → Contains ages age → has_age split age ≡ true) → list_all (has_age split) ages ≡ true
each_has split [] each = refl
each_has split (age ∷ ages) each =
    ap (λ (b : Bool). b && list_all (has_age split) ages) (each age (0, let low : 0 < suc (length ages) = omega arith in low, refl))
    ∙ each_has split ages (λ a has. each a (tail_in age ages a has))

has_is : (split : List ℕ) (age : ℕ) → (age ≡ 0) ⊎ Contains split age → has_age split age ≡ true
has_is split age (inl none) = ap (λ (b : Bool). b || list_any (λ (x : ℕ). x == age) split) (same_tests age 0 none)
has_is split age (inr has) = ap (λ (b : Bool). age == 0 || b) (among_yes split age has) ∙ either (age == 0)
  where
    either : (b : Bool) → (b || true) ≡ true
    either true = refl
    either false = refl

pub divided_is_finer : (least : ℕ) (all ages split : List ℕ) → 0 < least → IsStrictlyIncreasing ages → AreDivided least all 0 ages split → is_finer ages split ≡ true
divided_is_finer least all ages split some rises d =
    ap (λ (b : Bool). b && (list_all (has_age split) ages && L.depth_of split == L.depth_of ages)) ascends_is
    ∙ ap (λ (b : Bool). b && L.depth_of split == L.depth_of ages) (each_has split ages (λ age has. has_is split age (subst (λ (l : List ℕ). (age ≡ 0) ⊎ Contains l age) (sym d.ages_are) (among_all least all 0 ages d.arrays up d.each age has))))
    ∙ same_tests (L.depth_of split) (L.depth_of ages) (ap (L.last_of 0) d.ages_are ∙ after_last 0 (joined d.arrays) ∙ ap (λ (n : ℕ). 0 + n) (segments_total least all (segments 0 ages) d.arrays d.each) ∙ sym (ages_last 0 ages up))
  where
    up : Up 0 ages
    up = up_from 0 ages rises (λ some. omega arith)

    ascends_is : ascends 0 split ≡ true
    ascends_is = ap (ascends 0) d.ages_are ∙ after_ascends 0 (joined d.arrays) (all_some least all (segments 0 ages) d.arrays some d.each)

zip_at : {A B : Type 0} (R : A → B → Type 0) (xs : List A) (ys : List B) (k : ℕ) (d : A) (e : B) → AllZip R xs ys → k < length xs → R (slice_index_or xs k d) (slice_index_or ys k e)
zip_at R [] ys k d e each low = absurd (omega (arith, low))
zip_at R (x ∷ xs) [] k d e each low = absurd each
zip_at R (x ∷ xs) (y ∷ ys) zero d e each low = each.0
zip_at R (x ∷ xs) (y ∷ ys) (suc k) d e each low = zip_at R xs ys k d e each.1 (omega (arith, low))

-- the ages of the chain of each kept image are those of the plan, divided
pub divided_taken : (least : ℕ) (plan : Plan) (splits : List (List ℕ)) → 0 < least → AreSplits least plan splits → (g : ℕ) → Keeps plan g → IsStrictlyIncreasing (ages_of plan g)
    → AreDivided least (all_segments plan) 0 (ages_of plan g) (split_ages splits plan g)
unfolding split_ages
divided_taken least plan splits some each g keeps rises = subst (λ (b : Bool). AreDivided least (all_segments plan) 0 (ages_of plan g) (if b then split else ages_of plan g)) (sym (divided_is_finer least (all_segments plan) (ages_of plan g) split some rises own)) own
  where
    split : List ℕ
    split = slice_index_or splits (place_in plan g) []

    images : List Image
    images = plan.system.stencils.images

    none : Image
    none = record { number = 0; width = 0 }

    own : AreDivided least (all_segments plan) 0 (ages_of plan g) split
    own = subst (λ (n : ℕ). AreDivided least (all_segments plan) 0 (ages_of plan n) split) (at_place images g none keeps) (zip_at (λ (i : Image) s. AreDivided least (all_segments plan) 0 (ages_of plan i.number) s) images splits (place_in plan g) none [] each keeps)
