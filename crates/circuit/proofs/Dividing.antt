-- Chains that are divided for block memories.
use Rattle.std.proofs.Common.{◌≡◌, ℕ, zero, suc, ◌+◌, ◌-◌, ◌<◌, ◌≤◌, Bool, true, false, cond, List, [], ◌∷◌, ◌++◌, length, drop, replicate, filter, flat_map, nat_lt, Contains, refl, sym, ap, subst, ◌∙◌, inl, inr, arith, append_assoc, append-nil}
use Rattle.std.specs.Prelude.{slice_index, slice_index_or, MatchResult, Ok, Err, Result, Vec}
use Rattle.std.specs.declared.alloc.Global.{Global}
use Rattle.std.proofs.lemmas.List.Elements.{filter-append}
use Rattle.std.specs.List.Sorted.{IsBinarySearchResult, IsNonDecreasing}
use Rattle.std.specs.Ordering.{nat_cmp}
use Rattle.std.proofs.lemmas.Bool.{cases_lt}
use Rattle.std.proofs.lemmas.List.{get_or_default}
use Rattle.std.proofs.lemmas.List.Sorted.{searched}
use Rattle.line_buffer.proofs.More.{lt_is, is_lt}
use Rattle.circuit.specs.declared.splits.TheConstants.{MAX_REGISTERS}
use Rattle.circuit.specs.Splits.{lists_of}
use Rattle.circuit.specs.Divided.{segments, IsShortest, AreArraysOf, by_memory, by_registers, by_array, ages_after, AreDivided, AreLong, IsLeastFrom}

pub drop_here : {X : Type 0} (xs : List X) (k : ℕ) (d : X) → k < length xs → drop k xs ≡ slice_index_or xs k d ∷ drop (k + 1) xs
drop_here [] k d low = absurd (omega (arith, low))
drop_here (x ∷ xs) zero d low = refl
drop_here (x ∷ xs) (suc k) d low = drop_here xs k d (omega (arith, low)) ∙ ap (λ (j : ℕ). slice_index_or xs k d ∷ drop j (x ∷ xs)) (let e : suc (k + 1) ≡ suc k + 1 = omega arith in e)

pub none_left : {X : Type 0} (xs : List X) (k : ℕ) → length xs ≤ k → drop k xs ≡ []
none_left [] zero l = refl
none_left [] (suc k) l = refl
none_left (x ∷ xs) zero l = absurd (omega (arith, l))
none_left (x ∷ xs) (suc k) l = none_left xs k (omega (arith, l))

-- the long segments, one after another
pub long_more : (least low : ℕ) (ages : List ℕ) (k : ℕ) (before : List ℕ) → k < length ages → least < slice_index ages k - low
    → (before ++ (slice_index ages k - low) ∷ []) ++ filter (nat_lt least) (segments (slice_index ages k) (drop (k + 1) ages)) ≡ before ++ filter (nat_lt least) (segments low (drop k ages))
long_more least low ages k before there over =
    append_assoc before ((slice_index ages k - low) ∷ []) (filter (nat_lt least) (segments (slice_index ages k) (drop (k + 1) ages)))
    ∙ ap (λ (b : Bool). before ++ cond b ((slice_index ages k - low) ∷ filter (nat_lt least) (segments (slice_index ages k) (drop (k + 1) ages))) (filter (nat_lt least) (segments (slice_index ages k) (drop (k + 1) ages)))) (sym (lt_is least (slice_index ages k - low) over))
    ∙ ap (λ (xs : List ℕ). before ++ filter (nat_lt least) (segments low xs)) (sym (drop_here ages k 0 there))

-- those of several images
pub images_more : {X : Type 0} (test : ℕ → Bool) (f : X → List ℕ) (xs : List X) (k : ℕ) (d : X) (before : List ℕ) → k < length xs
    → (before ++ filter test (f (slice_index_or xs k d))) ++ filter test (flat_map f (drop (k + 1) xs)) ≡ before ++ filter test (flat_map f (drop k xs))
images_more test f xs k d before there =
    append_assoc before (filter test (f (slice_index_or xs k d))) (filter test (flat_map f (drop (k + 1) xs)))
    ∙ ap (λ (l : List ℕ). before ++ l) (sym (filter-append test (f (slice_index_or xs k d)) (flat_map f (drop (k + 1) xs))))
    ∙ ap (λ (l : List _). before ++ filter test (flat_map f l)) (sym (drop_here xs k d there))

pub images_none : {X : Type 0} (test : ℕ → Bool) (f : X → List ℕ) (xs : List X) (k : ℕ) (before : List ℕ) → length xs ≤ k → before ++ filter test (flat_map f (drop k xs)) ≡ before
images_none test f xs k before over = ap (λ (l : List _). before ++ filter test (flat_map f l)) (none_left xs k over) ∙ append-nil before

-- what is among them
head_in : {X : Type 0} (x : X) (xs : List X) → Contains (x ∷ xs) x
head_in x xs = (0, let low : 0 < suc (length xs) = omega arith in low, refl)

pub tail_in : {X : Type 0} (x : X) (xs : List X) (a : X) → Contains xs a → Contains (x ∷ xs) a
tail_in x xs a (k, low, is) = (suc k, omega (arith, low), is)

pub filter_in : (least : ℕ) (all : List ℕ) (words : ℕ) → Contains (filter (nat_lt least) all) words → Contains all words × (least < words)
filter_in least [] words (k, low, is) = absurd (omega (arith, low))
filter_in least (x ∷ all) words has = by (filter_in least all words) (nat_lt least x) refl has
  where
    by : (Contains (filter (nat_lt least) all) words → Contains all words × (least < words)) → (b : Bool) → nat_lt least x ≡ b → Contains (cond b (x ∷ filter (nat_lt least) all) (filter (nat_lt least) all)) words → Contains (x ∷ all) words × (least < words)
    by later true says (zero, low, is) = (subst (Contains (x ∷ all)) is (head_in x all), subst (λ (w : ℕ). least < w) is (is_lt least x says))
    by later true says (suc k, low, is) = let rest = later (k, omega (arith, low), is) in (tail_in x all words rest.0, rest.1)
    by later false says has = let rest = later has in (tail_in x all words rest.0, rest.1)

pub in_filter : (least : ℕ) (all : List ℕ) (words : ℕ) → Contains all words → least < words → Contains (filter (nat_lt least) all) words
in_filter least [] words (k, low, is) over = absurd (omega (arith, low))
in_filter least (x ∷ all) words (zero, low, is) over =
    subst (λ (b : Bool). Contains (cond b (x ∷ filter (nat_lt least) all) (filter (nat_lt least) all)) words) (sym (lt_is least x (subst (λ (w : ℕ). least < w) (sym is) over)))
    (subst (Contains (x ∷ filter (nat_lt least) all)) is (head_in x (filter (nat_lt least) all)))
in_filter least (x ∷ all) words (suc k, low, is) over = by (nat_lt least x) (in_filter least all words (k, omega (arith, low), is) over)
  where
    by : (b : Bool) → Contains (filter (nat_lt least) all) words → Contains (cond b (x ∷ filter (nat_lt least) all) (filter (nat_lt least) all)) words
    by true has = tail_in x (filter (nat_lt least) all) words has
    by false has = has

pub in_left : (xs ys : List ℕ) (a : ℕ) → Contains xs a → Contains (xs ++ ys) a
in_left [] ys a (k, low, is) = absurd (omega (arith, low))
in_left (x ∷ xs) ys a (zero, low, is) = subst (Contains (x ∷ (xs ++ ys))) is (head_in x (xs ++ ys))
in_left (x ∷ xs) ys a (suc k, low, is) = tail_in x (xs ++ ys) a (in_left xs ys a (k, omega (arith, low), is))

pub in_right : (xs ys : List ℕ) (a : ℕ) → Contains ys a → Contains (xs ++ ys) a
in_right [] ys a has = has
in_right (x ∷ xs) ys a has = tail_in x (xs ++ ys) a (in_right xs ys a has)

-- what one of them makes is among what all make
pub in_all : {X : Type 0} (f : X → List ℕ) (xs : List X) (k : ℕ) (d : X) (a : ℕ) → k < length xs → Contains (f (slice_index_or xs k d)) a → Contains (flat_map f xs) a
in_all f [] k d a low has = absurd (omega (arith, low))
in_all f (x ∷ xs) zero d a low has = in_left (f x) (flat_map f xs) a has
in_all f (x ∷ xs) (suc k) d a low has = in_right (f x) (flat_map f xs) a (in_all f xs k d a (omega (arith, low)) has)

-- what a search in ascending numbers says
abbrev Said : List ℕ → ℕ → Result ℕ ℕ → Type 0
Said numbers bound r =
    MatchResult r (λ i. (i < length numbers) × (slice_index_or numbers i 0 ≡ bound)) (λ i. (i ≤ length numbers) × ((j : ℕ) → j < i → slice_index_or numbers j 0 < bound) × ((j : ℕ) → i ≤ j → j < length numbers → bound < slice_index_or numbers j 0))

-- what is among numbers, at a place
at_place : (numbers : List ℕ) (n j : ℕ) → j < length numbers → slice_index_or numbers j n ≡ n → slice_index_or numbers j 0 ≡ n
at_place numbers n j low that = get_or_default numbers j 0 n low ∙ that

pub found : (numbers : List ℕ) (bound : ℕ) (r : Result ℕ ℕ) (k : ℕ) → IsBinarySearchResult (λ y. nat_cmp y bound) numbers r → IsNonDecreasing numbers → r ≡ Ok k → IsLeastFrom numbers bound bound
found numbers bound r k search up is = from (subst (Said numbers bound) is (searched numbers bound r search (λ i j le lt. up i j 0 le lt)))
  where
    from : (k < length numbers) × (slice_index_or numbers k 0 ≡ bound) → IsLeastFrom numbers bound bound
    from (low, here) = record { among = (k, low, get_or_default numbers k bound 0 low ∙ here); from = (let e : bound ≤ bound = omega arith in e); lower = λ n has above. above }

module _ (numbers : List ℕ) (bound : ℕ) (r : Result ℕ ℕ) (k : ℕ) (search : IsBinarySearchResult (λ y. nat_cmp y bound) numbers r) (up : IsNonDecreasing numbers) (is : r ≡ Err k) where
  said : (k ≤ length numbers) × ((j : ℕ) → j < k → slice_index_or numbers j 0 < bound) × ((j : ℕ) → k ≤ j → j < length numbers → bound < slice_index_or numbers j 0)
  said = subst (Said numbers bound) is (searched numbers bound r search (λ i j le lt. up i j 0 le lt))

  pub missed : k < length numbers → IsLeastFrom numbers bound (slice_index_or numbers k 0)
  missed there = record { among = (k, there, get_or_default numbers k (slice_index_or numbers k 0) 0 there); from = (let a = said.2 k (omega arith) there in omega (arith, a)); lower = lower }
    where
      lower : (n : ℕ) → Contains numbers n → bound ≤ n → slice_index_or numbers k 0 ≤ n
      lower n (j, low, that) near = elim (cases_lt j k) as (λ _. slice_index_or numbers k 0 ≤ n) [
        | inr le ↦ (let a = up k j 0 le low in omega (arith, a, at_place numbers n j low that))
        | inl lt ↦ absurd (let a = said.1 j lt in omega (arith, a, at_place numbers n j low that, near))
      ]

  pub none_from : length numbers ≤ k → (n : ℕ) → Contains numbers n → n < bound
  none_from past n (j, low, that) = let a = said.1 j (omega (arith, low, past)) in omega (arith, a, at_place numbers n j low that)

-- The least length that is near is that of the shortest.
pub shortest_is : (least : ℕ) (all lengths : List ℕ) (words bound shortest : ℕ) → bound ≡ words - MAX_REGISTERS → AreLong least all lengths → Contains all words → least < words → IsLeastFrom lengths bound shortest
    → IsShortest least all words shortest
shortest_is least all lengths words bound shortest is are has over near = record {
  among = (are.among shortest near.among).0;
  long = (are.among shortest near.among).1;
  within = near.lower words (are.has words has over) (omega (arith, is));
  near = (let a = near.from in omega (arith, a, is));
  shorter = λ other among over_other near_other. near.lower other (are.has other among over_other) (omega (arith, near_other, is));
}

-- the words themselves are near, so there is one
pub never_none : (least : ℕ) (all lengths : List ℕ) (words bound : ℕ) → bound ≡ words - MAX_REGISTERS → AreLong least all lengths → Contains all words → least < words → ((n : ℕ) → Contains lengths n → n < bound) → ⊥
never_none least all lengths words bound is are has over none = let a = none words (are.has words has over) in omega (arith, a, is)

-- the arrays of a segment
pub short_is : (words : ℕ) → 0 < words → 1 ∷ replicate {A = ℕ} (words - 1) 1 ≡ replicate {A = ℕ} words 1
short_is zero some = absurd (omega (arith, some))
short_is (suc words) some = ap (λ (n : ℕ). 1 ∷ replicate n 1) (let e : suc words - 1 ≡ words = omega arith in e)

pub whole_is : (words : ℕ) → words ∷ replicate (words - words) 1 ≡ words ∷ []
whole_is words = ap (λ (n : ℕ). words ∷ replicate n 1) (let e : words - words ≡ 0 = omega arith in e)

pub long_is : (words first : ℕ) → first ∷ replicate (words - first) 1 ≡ (first + 1 - 1) ∷ replicate (words + 1 - (first + 1)) 1
long_is words first =
    ap (λ (n : ℕ). first ∷ replicate n 1) (let e : words - first ≡ words + 1 - (first + 1) = omega arith in e)
    ∙ ap (λ (n : ℕ). n ∷ replicate (words + 1 - (first + 1)) 1) (let e : first ≡ first + 1 - 1 = omega arith in e)

-- single words, from an age up to another
pub singles_more : (age high : ℕ) → age < high → ages_after age (replicate (high - age) 1) ≡ (age + 1) ∷ ages_after (age + 1) (replicate (high - (age + 1)) 1)
singles_more age high less = ap (λ (n : ℕ). ages_after age (replicate n 1)) (let e : high - age ≡ suc (high - (age + 1)) = omega (arith, less) in e)

abbrev pub total : List ℕ → ℕ
total [] = 0
total (x ∷ xs) = x + total xs

total_ones : (n : ℕ) → total (replicate {A = ℕ} n 1) ≡ n
total_ones zero = refl
total_ones (suc n) = let rest = total_ones n in let e : 1 + total (replicate {A = ℕ} n 1) ≡ suc n = omega (arith, rest) in e

-- they have its words together
pub arrays_total : (least : ℕ) (all : List ℕ) (words : ℕ) (arrays : List ℕ) → AreArraysOf least all words arrays → total arrays ≡ words
arrays_total least all words arrays (by_memory shortest over near is) =
    let ones : total (replicate {A = ℕ} (words + 1 - shortest) 1) ≡ words + 1 - shortest = total_ones (words + 1 - shortest) in
    let sum : (shortest - 1) + total (replicate {A = ℕ} (words + 1 - shortest) 1) ≡ words = omega (arith, ones, near.within, near.long) in
    ap total is ∙ sum
arrays_total least all words arrays (by_registers few little is) = ap total is ∙ total_ones words
arrays_total least all words arrays (by_array few more is) = ap total is ∙ (let e : words + 0 ≡ words = omega arith in e)

pub after_more : (low : ℕ) (one other : List ℕ) → ages_after low (one ++ other) ≡ ages_after low one ++ ages_after (low + total one) other
after_more low [] other = ap (λ (n : ℕ). ages_after n other) (let e : low ≡ low + 0 = omega arith in e)
after_more low (x ∷ one) other =
    ap (λ (l : List ℕ). (low + x) ∷ l) (after_more (low + x) one other)
    ∙ ap (λ (n : ℕ). (low + x) ∷ (ages_after (low + x) one ++ ages_after n other)) (let e : low + x + total one ≡ low + (x + total one) = omega arith in e)

-- One more segment before those that are divided.
pub divided_more : (least : ℕ) (all : List ℕ) (low age : ℕ) (ages arrays rest : List ℕ) → low ≤ age → AreArraysOf least all (age - low) arrays
    → AreDivided least all age ages rest → AreDivided least all low (age ∷ ages) (ages_after low arrays ++ rest)
divided_more least all low age ages arrays rest up one d = record {
  arrays = arrays ∷ d.arrays;
  each = (one, d.each);
  ages_are =
      ap (λ (l : List ℕ). ages_after low arrays ++ l) (d.ages_are ∙ ap (λ (n : ℕ). ages_after n (flat_map (λ words. words) d.arrays)) (let words = arrays_total least all (age - low) arrays one in let e : age ≡ low + total arrays = omega (arith, up, words) in e))
      ∙ sym (after_more low arrays (flat_map (λ words. words) d.arrays));
}

-- a segment of no words has no arrays
pub no_arrays : (least : ℕ) (all : List ℕ) (words : ℕ) → words ≡ 0 → AreArraysOf least all words []
no_arrays least all words none = by_registers (omega (arith, none)) (omega (arith, none)) (ap (λ (n : ℕ). replicate n 1) (sym none))

pub divided_none : (least : ℕ) (all : List ℕ) (low : ℕ) → AreDivided least all low [] []
divided_none least all low = record { arrays = []; each = tt; ages_are = refl }

-- the words of the next segment, and those of later ones
pub next_segment : (low : ℕ) (ages : List ℕ) (k : ℕ) → k < length ages → Contains (segments low (drop k ages)) (slice_index ages k - low)
next_segment low ages k there = subst (λ (l : List ℕ). Contains (segments low l) (slice_index ages k - low)) (sym (drop_here ages k 0 there)) (head_in (slice_index ages k - low) (segments (slice_index ages k) (drop (k + 1) ages)))

pub later_segments : (low : ℕ) (ages : List ℕ) (k words : ℕ) → k < length ages → Contains (segments (slice_index ages k) (drop (k + 1) ages)) words → Contains (segments low (drop k ages)) words
later_segments low ages k words there has = subst (λ (l : List ℕ). Contains (segments low l) words) (sym (drop_here ages k 0 there)) (tail_in (slice_index ages k - low) (segments (slice_index ages k) (drop (k + 1) ages)) words has)

-- the lists of vectors, one more at the end
pub lists_more : (splits : List (Vec ℕ Global)) (split : Vec ℕ Global) (rest : List (List ℕ)) → lists_of (splits ++ split ∷ []) ++ rest ≡ lists_of splits ++ (split.items ∷ rest)
lists_more [] split rest = refl
lists_more (s ∷ splits) split rest = ap (λ (l : List (List ℕ)). s.items ∷ l) (lists_more splits split rest)

-- the arrays of a segment that is not empty, from those of its first array
pub first_within : (least : ℕ) (all : List ℕ) (words first : ℕ) → AreArraysOf least all words (first ∷ replicate (words - first) 1) → first ≤ words
first_within least all words first are =
    let sum : first + total (replicate {A = ℕ} (words - first) 1) ≡ words = arrays_total least all words (first ∷ replicate (words - first) 1) are in
    omega (arith, sum)
