-- Causal delays with their depths keep the constraints, and numbers that keep them are causal delays with room for their depths.
use Rattle.std.proofs.Common.{◌≡◌, ◌≢◌, ◌<◌, ◌≤◌, ℕ, ℤ, zero, suc, pos, negsuc, List, [], ◌∷◌, ◌++◌, length, map, sum_by, slice_index, ◌+◌, ◌-◌, ◌*◌, max, true, false, cond, eqb, refl, ap, ◌∙◌, arith, inl, inr}
use Rattle.std.specs.Prelude.{◌+ℤ◌, ◌-ℤ◌, ◌≤ℤ◌, neg_ℤ, unsigned_abs, All}
use Rattle.std.specs.List.{enumerate_from, range_with_len, AllByRecursion}
use Rattle.std.proofs.Math.Nat.{mul-le-mul_left}
use Rattle.std.proofs.lemmas.Int.{ints}
use Rattle.std.proofs.lemmas.Bool.Decides.{nat_tests}
use Rattle.std.proofs.lemmas.Bool.{cases_eq, cases_lt}
use Rattle.std.proofs.lemmas.List.Elements.{All-from_recursion, recursion_from_All}
use Rattle.std.proofs.Common.{take, get_or}
use Rattle.std.proofs.lemmas.List.{take_all, get_or_append_left, get_or-append_right}
use Rattle.std.proofs.lemmas.List.FromFn.{length-enumerate_from, get_or-enumerate_from, length-map-range_with_len, get_or-map-range_with_len}
use Rattle.std.proofs.lemmas.List.Sums.{sum_by-cons, sum_by_more}
use Rattle.raster_delay.specs.Network.{Holds, Buffer}
use Rattle.raster_delay.specs.Delays.{offset, age_of, AreCausal, depth_of, bits_of, begin_of, begin_count, end_of, hold, start, read, keep, holds_of, starts_of, constraints_of, buffer, AreReads}
use Rattle.raster_delay.specs.declared.placed.PlacedRead.{PlacedRead}

module _ {X : Type 0} (P : X → Type 0) where
  pub rec_append : (xs ys : List X) → AllByRecursion P xs → AllByRecursion P ys → AllByRecursion P (xs ++ ys)
  rec_append [] ys h k = k
  rec_append (x ∷ xs) ys h k = (h.0, rec_append xs ys h.1 k)

  pub rec_left : (xs ys : List X) → AllByRecursion P (xs ++ ys) → AllByRecursion P xs
  rec_left [] ys h = tt
  rec_left (x ∷ xs) ys h = (h.0, rec_left xs ys h.1)

  pub rec_right : (xs ys : List X) → AllByRecursion P (xs ++ ys) → AllByRecursion P ys
  rec_right [] ys h = h
  rec_right (x ∷ xs) ys h = rec_right xs ys h.1

  pub rec_map_in : {Y : Type 0} (f : Y → X) (ys : List Y) → AllByRecursion (λ y. P (f y)) ys → AllByRecursion P (map f ys)
  rec_map_in f [] h = tt
  rec_map_in f (y ∷ ys) h = (h.0, rec_map_in f ys h.1)

  pub rec_map_out : {Y : Type 0} (f : Y → X) (ys : List Y) → AllByRecursion P (map f ys) → AllByRecursion (λ y. P (f y)) ys
  rec_map_out f [] h = tt
  rec_map_out f (y ∷ ys) h = (h.0, rec_map_out f ys h.1)

  pub rec_both : (Q R : X → Type 0) → ((x : X) → P x → Q x → R x) → (xs : List X) → AllByRecursion P xs → AllByRecursion Q xs → AllByRecursion R xs
  rec_both Q R f [] h k = tt
  rec_both Q R f (x ∷ xs) h k = (f x h.0 k.0, rec_both Q R f xs h.1 k.1)

pub rec_range_in : (P : ℕ → Type 0) (a n : ℕ) → ((k : ℕ) → a ≤ k → k < a + n → P k) → AllByRecursion P (range_with_len a n)
rec_range_in P a zero h = tt
rec_range_in P a (suc n) h = (h a (omega arith) (omega arith), rec_range_in P (a + 1) n (λ k le lt. h k (omega arith) (omega arith)))

pub rec_range_out : (P : ℕ → Type 0) (a n : ℕ) → AllByRecursion P (range_with_len a n) → (k : ℕ) → a ≤ k → k < a + n → P k
rec_range_out P a zero h k le lt = absurd (omega arith)
rec_range_out P a (suc n) h k le lt = elim (cases_eq k a) [
  | inl e ↦ rw e h.0
  | inr ne ↦ rec_range_out P (a + 1) n h.1 k (omega arith) (omega arith)
]

-- a read's constraints, over plain numbers
age_holds : (f g age : ℕ) (o : ℤ) → pos age ≤ℤ (pos f -ℤ pos g -ℤ o) → (pos g +ℤ (o +ℤ pos age)) ≤ℤ pos f
age_holds f g age o h = omega (arith, ints)

age_from_holds : (f g age : ℕ) (o : ℤ) → (pos g +ℤ (o +ℤ pos age)) ≤ℤ pos f → pos age ≤ℤ (pos f -ℤ pos g -ℤ o)
age_from_holds f g age o h = omega (arith, ints)

abs_is : (z : ℤ) (k : ℕ) → pos k ≤ℤ z → z ≡ pos (unsigned_abs z)
abs_is (pos n) k h = refl
abs_is (negsuc n) k h = absurd (omega (arith, ints))

keep_holds : (f g m k : ℕ) (o : ℤ) → pos k ≤ℤ (pos f -ℤ pos g -ℤ o) → unsigned_abs (pos f -ℤ pos g -ℤ o) ≤ m → (pos f +ℤ neg_ℤ o) ≤ℤ pos (g + m)
keep_holds f g m k o h le = omega (arith, ints, abs_is (pos f -ℤ pos g -ℤ o) k h)

depth_room : (f g e k : ℕ) (o : ℤ) → pos k ≤ℤ (pos f -ℤ pos g -ℤ o) → (pos f +ℤ neg_ℤ o) ≤ℤ pos e → g + unsigned_abs (pos f -ℤ pos g -ℤ o) ≤ e
depth_room f g e k o h le = omega (arith, ints, abs_is (pos f -ℤ pos g -ℤ o) k h)

module _ (row : ℕ) (d : List ℕ) where
  depth_head : (r : PlacedRead) (reads : List PlacedRead) → unsigned_abs (age_of row d r) ≤ depth_of row d (r ∷ reads) r.g
  depth_head r reads = grind (arith, nat_tests)

  depth_tail : (r : PlacedRead) (reads : List PlacedRead) (g : ℕ) → depth_of row d reads g ≤ depth_of row d (r ∷ reads) g
  depth_tail r reads g = elim (eqb r.g g) as (λ b. depth_of row d reads g ≤ cond b (max (unsigned_abs (age_of row d r)) (depth_of row d reads g)) (depth_of row d reads g)) [ true ↦ omega arith | false ↦ omega arith ]

  pub depth-cons_yes : (r : PlacedRead) (reads : List PlacedRead) (g : ℕ) → r.g ≡ g → depth_of row d (r ∷ reads) g ≡ max (unsigned_abs (age_of row d r)) (depth_of row d reads g)
  depth-cons_yes r reads g e = grind (arith, nat_tests)

  pub depth-cons_no : (r : PlacedRead) (reads : List PlacedRead) (g : ℕ) → r.g ≢ g → depth_of row d (r ∷ reads) g ≡ depth_of row d reads g
  depth-cons_no r reads g e = grind (arith, nat_tests)

  pub depth_bounds : (reads : List PlacedRead) → AllByRecursion (λ r. unsigned_abs (age_of row d r) ≤ depth_of row d reads r.g) reads
  depth_bounds [] = tt
  depth_bounds (r ∷ reads) = (
    depth_head r reads,
    rec_both (λ q. unsigned_abs (age_of row d q) ≤ depth_of row d reads q.g) (λ q. unsigned_abs (age_of row d q) ≤ depth_of row d reads q.g) (λ q. unsigned_abs (age_of row d q) ≤ depth_of row d (r ∷ reads) q.g)
        (λ q h _. omega (arith, h, depth_tail r reads q.g)) reads (depth_bounds reads) (depth_bounds reads),
  )

  pub depth_least : (reads : List PlacedRead) (g m : ℕ) → AllByRecursion (λ r. r.g ≡ g → unsigned_abs (age_of row d r) ≤ m) reads → depth_of row d reads g ≤ m
  depth_least [] g m h = omega arith
  depth_least (r ∷ reads) g m h = elim (cases_eq r.g g) [
    | inl e ↦ let at = h.0 e in let rest = depth_least reads g m h.1 in grind (arith, nat_tests)
    | inr ne ↦ let rest = depth_least reads g m h.1 in grind (arith, nat_tests)
  ]

-- each kept image begins at one of the first nodes
pub begin_below : (inputs images k : ℕ) → inputs ≤ images → k < images → begin_of inputs k < begin_count inputs images
begin_below inputs images k kept h = omega arith

module _ (row inputs images : ℕ) (reads : List PlacedRead) (are : AreReads row inputs images reads) where
  pub reads_within : AllByRecursion (λ r. (r.g < images) × (r.f < images)) reads
  reads_within =
      let earlier = recursion_from_All (λ r. r.g < r.f) reads are.earlier in
      let among = recursion_from_All (λ r. r.f < images) reads are.among in
      rec_both (λ r. r.g < r.f) (λ r. r.f < images) (λ r. (r.g < images) × (r.f < images)) (λ r h k. (omega arith, k)) reads earlier among

module _ (row age inputs images : ℕ) (reads : List PlacedRead) (are : AreReads row inputs images reads) (some : 1 ≤ inputs) (kept : inputs ≤ images) where
  -- delays with room for their depths keep the constraints
  pub causal_holds : (d p : List ℕ) → AreCausal row age inputs images reads d
      → ((k : ℕ) → k < images → slice_index p (begin_of inputs k) ≡ slice_index d k)
      → ((k : ℕ) → k < images → slice_index p (end_of inputs images k) ≡ slice_index d k + depth_of row d reads k)
      → AllByRecursion (Holds p) (constraints_of row age inputs images reads)
  causal_holds d p causal begins ends =
      let ages = recursion_from_All (λ r. pos age ≤ℤ age_of row d r) reads causal.ages in
      let within = reads_within row inputs images reads are in
      let deep = depth_bounds row d reads in
      let first : begin_of inputs 0 ≡ 0 = omega arith in
      let zero_at : slice_index p 0 ≡ 0 = omega (arith, ap (slice_index p) first, begins 0 (omega arith), causal.inputs_at_once 0 some) in
      rec_append (Holds p) ((holds_of inputs images ++ starts_of inputs images) ++ map (read row age inputs) reads) (map (keep row inputs images) reads)
      (rec_append (Holds p) (holds_of inputs images ++ starts_of inputs images) (map (read row age inputs) reads)
      (rec_append (Holds p) (holds_of inputs images) (starts_of inputs images)
      (rec_map_in (Holds p) (hold inputs images) (range_with_len 0 images) (rec_range_in (λ k. Holds p (hold inputs images k)) 0 images
      (λ k _ lt. omega (arith, ints, begins k (omega arith), ends k (omega arith)))))
      (rec_map_in (Holds p) (start inputs) (range_with_len inputs (images - inputs)) (rec_range_in (λ k. Holds p (start inputs k)) inputs (images - inputs)
      (λ k le lt. omega (arith, ints, zero_at)))))
      (rec_map_in (Holds p) (read row age inputs) reads (rec_both (λ r. (r.g < images) × (r.f < images)) (λ r. pos age ≤ℤ age_of row d r) (λ r. Holds p (read row age inputs r))
      (λ r w h. rw (begins r.g w.0, begins r.f w.1) (age_holds (slice_index d r.f) (slice_index d r.g) age (offset row r) h)) reads within ages)))
      (rec_map_in (Holds p) (keep row inputs images) reads (rec_both (λ r. (r.g < images) × (r.f < images)) (λ r. (pos age ≤ℤ age_of row d r) × (unsigned_abs (age_of row d r) ≤ depth_of row d reads r.g)) (λ r. Holds p (keep row inputs images r))
      (λ r w h. rw (begins r.f w.1, ends r.g w.0) (keep_holds (slice_index d r.f) (slice_index d r.g) (depth_of row d reads r.g) age (offset row r) h.0 h.1)) reads within
      (rec_both (λ r. pos age ≤ℤ age_of row d r) (λ r. unsigned_abs (age_of row d r) ≤ depth_of row d reads r.g) (λ r. (pos age ≤ℤ age_of row d r) × (unsigned_abs (age_of row d r) ≤ depth_of row d reads r.g)) (λ r h k. (h, k)) reads ages deep)))

  -- numbers that keep the constraints are causal delays, with room for their depths
  module _ (p d : List ℕ) (holds : AllByRecursion (Holds p) (constraints_of row age inputs images reads)) (size : length d ≡ images)
      (begins : (k : ℕ) → k < images → slice_index d k ≡ slice_index p (begin_of inputs k)) where
    read_ages : AllByRecursion (λ r. pos age ≤ℤ age_of row d r) reads
    read_ages =
        let reads_hold = rec_map_out (Holds p) (read row age inputs) reads
        (rec_right (Holds p) (holds_of inputs images ++ starts_of inputs images) (map (read row age inputs) reads)
        (rec_left (Holds p) ((holds_of inputs images ++ starts_of inputs images) ++ map (read row age inputs) reads) (map (keep row inputs images) reads) holds)) in
        rec_both (λ r. (r.g < images) × (r.f < images)) (λ r. Holds p (read row age inputs r)) (λ r. pos age ≤ℤ age_of row d r)
        (λ r w h. age_from_holds (slice_index d r.f) (slice_index d r.g) age (offset row r) (rw (begins r.g w.0, begins r.f w.1) h)) reads (reads_within row inputs images reads are) reads_hold

    pub holds_causal : slice_index p 0 ≡ 0 → AreCausal row age inputs images reads d
    holds_causal zero_at = record {
      one_each = size;
      inputs_at_once = λ k h.
          let first : begin_of inputs k ≡ 0 = omega arith in
          omega (arith, begins k (omega arith), ap (slice_index p) first, zero_at);
      ages = All-from_recursion (λ r. pos age ≤ℤ age_of row d r) reads read_ages;
    }

    pub holds_room : (k : ℕ) → k < images → slice_index d k + depth_of row d reads k ≤ slice_index p (end_of inputs images k)
    holds_room k lt =
        let keeps_hold = rec_map_out (Holds p) (keep row inputs images) reads
        (rec_right (Holds p) ((holds_of inputs images ++ starts_of inputs images) ++ map (read row age inputs) reads) (map (keep row inputs images) reads) holds) in
        let hold_at = rec_range_out (λ k. Holds p (hold inputs images k)) 0 images (rec_map_out (Holds p) (hold inputs images) (range_with_len 0 images)
        (rec_left (Holds p) (holds_of inputs images) (starts_of inputs images)
        (rec_left (Holds p) (holds_of inputs images ++ starts_of inputs images) (map (read row age inputs) reads)
        (rec_left (Holds p) ((holds_of inputs images ++ starts_of inputs images) ++ map (read row age inputs) reads) (map (keep row inputs images) reads) holds)))) k (omega arith) (omega arith) in
        let room = slice_index p (end_of inputs images k) - slice_index d k in
        let above : slice_index d k ≤ slice_index p (end_of inputs images k) = omega (arith, ints, hold_at, begins k lt) in
        let deep : depth_of row d reads k ≤ room = depth_least row d reads k room
        (rec_both (λ r. ((r.g < images) × (r.f < images)) × (pos age ≤ℤ age_of row d r)) (λ r. Holds p (keep row inputs images r)) (λ r. r.g ≡ k → unsigned_abs (age_of row d r) ≤ room)
        (λ r w h e. omega (
          arith,
          depth_room (slice_index d r.f) (slice_index d r.g) (slice_index p (end_of inputs images r.g)) age (offset row r) w.1 (rw (begins r.f w.0.1) h),
          ap (slice_index d) e,
          ap (λ g. slice_index p (end_of inputs images g)) e,
        ))
        reads (rec_both (λ r. (r.g < images) × (r.f < images)) (λ r. pos age ≤ℤ age_of row d r) (λ r. ((r.g < images) × (r.f < images)) × (pos age ≤ℤ age_of row d r)) (λ r h k. (h, k)) reads (reads_within row inputs images reads are) read_ages) keeps_hold) in
        omega (arith, deep, above)

-- the numbers of causal delays: they themselves, and then with their depths
module _ (row inputs images : ℕ) (reads : List PlacedRead) (d : List ℕ) where
  abbrev begin_numbers : List ℕ
  begin_numbers = map (λ v. slice_index d (v + inputs - 1)) (range_with_len 0 (begin_count inputs images))

  abbrev end_numbers : List ℕ
  end_numbers = map (λ k. slice_index d k + depth_of row d reads k) (range_with_len 0 images)

  pub numbers_of : List ℕ
  numbers_of = begin_numbers ++ end_numbers

  length-begins : length begin_numbers ≡ begin_count inputs images
  length-begins = length-map-range_with_len (λ v. slice_index d (v + inputs - 1)) 0 (begin_count inputs images)

  module _ (some : 1 ≤ inputs) (kept : inputs ≤ images) where
    begin_at : (v : ℕ) → v < begin_count inputs images → slice_index numbers_of v ≡ slice_index d (v + inputs - 1)
    unfolding numbers_of
    begin_at v h =
        get_or_append_left begin_numbers end_numbers 0 v (omega (arith, h, length-begins))
        ∙ get_or-map-range_with_len (λ v. slice_index d (v + inputs - 1)) 0 (begin_count inputs images) v v 0 h (omega arith)

    pub begins_of : ((k : ℕ) → k < inputs → slice_index d k ≡ 0) → (k : ℕ) → k < images → slice_index numbers_of (begin_of inputs k) ≡ slice_index d k
    begins_of at_once k h = elim (cases_lt k inputs) [
      | inl low ↦
          let last : begin_of inputs k + inputs - 1 ≡ inputs - 1 = omega arith in
          omega (arith, begin_at (begin_of inputs k) (omega arith), ap (slice_index d) last, at_once (inputs - 1) (omega arith), at_once k low)
      | inr high ↦
          let same : begin_of inputs k + inputs - 1 ≡ k = omega arith in
          begin_at (begin_of inputs k) (omega arith) ∙ ap (slice_index d) same
    ]

    pub ends_of : (k : ℕ) → k < images → slice_index numbers_of (end_of inputs images k) ≡ slice_index d k + depth_of row d reads k
    unfolding numbers_of
    ends_of k h =
        get_or-append_right begin_numbers end_numbers (begin_count inputs images) (end_of inputs images k) 0 length-begins (omega arith)
        ∙ get_or-map-range_with_len (λ k. slice_index d k + depth_of row d reads k) 0 images (end_of inputs images k - begin_count inputs images) k 0 (omega arith) (omega arith)

module _ (row age inputs images : ℕ) (reads : List PlacedRead) (are : AreReads row inputs images reads) (some : 1 ≤ inputs) (kept : inputs ≤ images)
    (d : List ℕ) (causal : AreCausal row age inputs images reads d) where
  pub numbers_hold : AllByRecursion (Holds (numbers_of row inputs images reads d)) (constraints_of row age inputs images reads)
  numbers_hold = causal_holds row age inputs images reads are some kept d (numbers_of row inputs images reads d) causal
      (begins_of row inputs images reads d some kept causal.inputs_at_once) (ends_of row inputs images reads d some kept)

-- numbers that are raised for the reads, then for the holds, then for the keeps, keep all constraints
module _ (row age inputs images : ℕ) (reads : List PlacedRead) (are : AreReads row inputs images reads) (kept : inputs ≤ images) (p1 p2 p3 : List ℕ) where
  pub raised_hold : All (Holds p1) (map (read row age inputs) reads) → All (Holds p2) (holds_of inputs images) → All (Holds p3) (map (keep row inputs images) reads)
      → ((v : ℕ) → v < begin_count inputs images → slice_index p3 v ≡ slice_index p1 v) → ((v : ℕ) → v < begin_count inputs images → slice_index p3 v ≡ slice_index p2 v)
      → ((v : ℕ) → slice_index p2 v ≤ slice_index p3 v) → slice_index p3 0 ≡ 0 → All (Holds p3) (constraints_of row age inputs images reads)
  raised_hold reads_hold holds_hold keeps_hold same same' more zero_at =
      let within = reads_within row inputs images reads are in
      let at_reads = rec_map_out (Holds p1) (read row age inputs) reads (recursion_from_All (Holds p1) (map (read row age inputs) reads) reads_hold) in
      let at_holds = rec_map_out (Holds p2) (hold inputs images) (range_with_len 0 images) (recursion_from_All (Holds p2) (holds_of inputs images) holds_hold) in
      All-from_recursion (Holds p3) (constraints_of row age inputs images reads)
      (rec_append (Holds p3) ((holds_of inputs images ++ starts_of inputs images) ++ map (read row age inputs) reads) (map (keep row inputs images) reads)
      (rec_append (Holds p3) (holds_of inputs images ++ starts_of inputs images) (map (read row age inputs) reads)
      (rec_append (Holds p3) (holds_of inputs images) (starts_of inputs images)
      (rec_map_in (Holds p3) (hold inputs images) (range_with_len 0 images) (rec_range_in (λ k. Holds p3 (hold inputs images k)) 0 images
      (λ k le lt. omega (arith, ints, same' (begin_of inputs k) (begin_below inputs images k kept (omega arith)), more (end_of inputs images k), rec_range_out (λ k. Holds p2 (hold inputs images k)) 0 images at_holds k le lt))))
      (rec_map_in (Holds p3) (start inputs) (range_with_len inputs (images - inputs)) (rec_range_in (λ k. Holds p3 (start inputs k)) inputs (images - inputs)
      (λ k le lt. omega (arith, ints, zero_at)))))
      (rec_map_in (Holds p3) (read row age inputs) reads (rec_both (λ r. (r.g < images) × (r.f < images)) (λ r. Holds p1 (read row age inputs r)) (λ r. Holds p3 (read row age inputs r))
      (λ r w h. rw (same (begin_of inputs r.g) (begin_below inputs images r.g kept w.0), same (begin_of inputs r.f) (begin_below inputs images r.f kept w.1)) h) reads within at_reads)))
      (recursion_from_All (Holds p3) (map (keep row inputs images) reads) keeps_hold))

-- the objective, where numbers are delays with their depths, and where they have room for them
module _ (inputs images row : ℕ) (d : List ℕ) (reads : List PlacedRead) (p : List ℕ) where
  abbrev pub between : ℕ → ℕ
  between k = slice_index p (end_of inputs images k) - slice_index p (begin_of inputs k)

  abbrev pub weighted : Buffer → ℕ
  weighted b = b.width * (slice_index p b.end - slice_index p b.begin)

  abbrev pub deep : ℕ × ℕ → ℕ
  deep x = x.1 * depth_of row d reads x.0

  pub objective-same : (j : ℕ) (ws : List ℕ) → ((k : ℕ) → j ≤ k → k < j + length ws → between k ≡ depth_of row d reads k)
      → sum_by weighted (map (buffer inputs images) (enumerate_from j ws)) ≡ sum_by deep (enumerate_from j ws)
  objective-same j [] h = refl
  objective-same j (w ∷ ws) h =
      omega (
        arith,
        sum_by-cons weighted (buffer inputs images (j, w)) (map (buffer inputs images) (enumerate_from (j + 1) ws)),
        sum_by-cons deep (j, w) (enumerate_from (j + 1) ws),
        objective-same (j + 1) ws (λ k le lt. h k (omega arith) (omega arith)),
        ap (λ x. w * x) (h j (omega arith) (omega arith)),
      )

  pub objective-least : (j : ℕ) (ws : List ℕ) → ((k : ℕ) → j ≤ k → k < j + length ws → depth_of row d reads k ≤ between k)
      → sum_by deep (enumerate_from j ws) ≤ sum_by weighted (map (buffer inputs images) (enumerate_from j ws))
  objective-least j [] h = omega arith
  objective-least j (w ∷ ws) h =
      omega (
        arith,
        sum_by-cons weighted (buffer inputs images (j, w)) (map (buffer inputs images) (enumerate_from (j + 1) ws)),
        sum_by-cons deep (j, w) (enumerate_from (j + 1) ws),
        objective-least (j + 1) ws (λ k le lt. h k (omega arith) (omega arith)),
        mul-le-mul_left w (h j (omega arith) (omega arith)),
      )

-- the bits of the first images
abbrev pub bits_before : ℕ → List ℕ → List PlacedRead → List ℕ → ℕ → ℕ
bits_before row d reads widths n = sum_by (λ x. x.1 * depth_of row d reads x.0) (take n (enumerate_from 0 widths))

pub bits-more : (row : ℕ) (d : List ℕ) (reads : List PlacedRead) (widths : List ℕ) (i : ℕ) → i < length widths
    → bits_before row d reads widths (i + 1) ≡ bits_before row d reads widths i + get_or widths i 0 * depth_of row d reads i
bits-more row d reads widths i h =
    let f : ℕ × ℕ → ℕ = λ x. x.1 * depth_of row d reads x.0 in
    sum_by_more f (enumerate_from 0 widths) i (0, 0) (omega (arith, length-enumerate_from 0 widths))
    ∙ ap (λ n. bits_before row d reads widths i + n) (ap f (get_or-enumerate_from 0 widths i (0, 0) h) ∙ ap (λ k. get_or widths i 0 * depth_of row d reads k) (omega arith))

pub bits-all : (row : ℕ) (d : List ℕ) (reads : List PlacedRead) (widths : List ℕ) (n : ℕ) → length widths ≤ n → bits_before row d reads widths n ≡ bits_of row d reads widths
bits-all row d reads widths n h =
    ap (sum_by (λ (x : ℕ × ℕ). x.1 * depth_of row d reads x.0)) (take_all n (enumerate_from 0 widths) (omega (arith, length-enumerate_from 0 widths)))
