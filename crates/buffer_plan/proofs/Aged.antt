-- The ages of the live reads of a plan: each is at least 0, and the greatest of an image's is its depth.
use Rattle.std.proofs.Common.{◌≡◌, ◌⊎◌, ◌<◌, ◌≤◌, ℕ, zero, suc, ◌+◌, ◌*◌, max, ℤ, pos, Bool, true, false, List, [], ◌∷◌, length, map, slice_index, slice_index_or, Contains, refl, ap, sym, subst, ◌∙◌, arith, inl, inr, cond}
use Rattle.std.specs.Prelude.{filter, ◌==◌, ◌≤ℤ◌, unsigned_abs, sum_by, negsuc}
use Rattle.std.specs.List.{All, enumerate_from}
use Rattle.std.proofs.lemmas.Bool.{cases_lt}
use Rattle.std.proofs.lemmas.Int.{ints}
use Rattle.std.proofs.Math.Nat.{mul-le-mul_right}
use Rattle.std.proofs.lemmas.List.{get_or-map, length-map}
use Rattle.std.proofs.lemmas.List.Sums.{sum_by-cons}
use Rattle.dk_base.specs.declared.TheConstants.{MAX_BUFFER_BITS}
use Rattle.dk_base.specs.declared.stencils.Image.{Image}
use Rattle.dk_base.specs.declared.stencils.LiveRead.{LiveRead}
use Rattle.dk_base.specs.Stencils.{place, IsKept, IsRead}
use Rattle.raster_delay.specs.declared.placed.PlacedRead.{PlacedRead}
use Rattle.raster_delay.specs.Delays.{IsNear, offset, age_of, depth_of}
use Rattle.raster_delay.specs.Placing.{placed}
use Rattle.raster_delay.specs.Systems.{placed_reads, widths}
use Rattle.raster_delay.proofs.Places.{system_form}
use Rattle.buffer_plan.specs.Plans.{Plan, ages_in, ages_of, AreAges, place_in, read_age, IsPlan, last_of}
use Rattle.buffer_plan.specs.Plans as P
use Rattle.buffer_plan.proofs.Distinct.{head_in, tail_in, one_of, none_in, same_tests, picked, distinct_once, last_is}

module _ (row : ℕ) (d : List ℕ) (k : ℕ) where
  abbrev age : PlacedRead → ℕ
  age r = unsigned_abs (age_of row d r)

  -- the ages where a read is of the image, and where it is not
  abbrev more : PlacedRead → List PlacedRead → Bool → List ℕ
  more r reads b = map age (cond b (r ∷ filter (λ r. r.g == k) reads) (filter (λ r. r.g == k) reads))

  abbrev deeper : PlacedRead → List PlacedRead → Bool → ℕ
  deeper r reads b = cond b (max (age r) (depth_of row d reads k)) (depth_of row d reads k)

  -- no age is above the depth
  pub no_deeper : (reads : List PlacedRead) (a : ℕ) → Contains (ages_in row d k reads) a → a ≤ depth_of row d reads k
  no_deeper [] a has = absurd (none_in a has)
  no_deeper (r ∷ reads) a has = by (r.g == k) has (λ h. no_deeper reads a h)
    where
      by : (b : Bool) → Contains (more r reads b) a → (Contains (ages_in row d k reads) a → a ≤ depth_of row d reads k) → a ≤ deeper r reads b
      by true has rest = elim (one_of (age r) (ages_in row d k reads) a has) [
        | inl h ↦ omega (arith, h)
        | inr h ↦ let less = rest h in omega (arith, less)
      ]
      by false has rest = rest has

  -- the depth is 0 or an age
  pub depth_there : (reads : List PlacedRead) → (depth_of row d reads k ≡ 0) ⊎ Contains (ages_in row d k reads) (depth_of row d reads k)
  depth_there [] = inl refl
  depth_there (r ∷ reads) = by (r.g == k) (depth_there reads)
    where
      which : (a b : ℕ) → (max a b ≡ a) ⊎ (max a b ≡ b)
      which a b = elim (cases_lt a b) [ inl h ↦ inr (omega (arith, h)) | inr h ↦ inl (omega (arith, h)) ]

      by : (b : Bool) → (depth_of row d reads k ≡ 0) ⊎ Contains (ages_in row d k reads) (depth_of row d reads k) → (deeper r reads b ≡ 0) ⊎ Contains (more r reads b) (deeper r reads b)
      by false rest = rest
      by true rest = elim (which (age r) (depth_of row d reads k)) [
        | inl h ↦ inr (subst (Contains (age r ∷ ages_in row d k reads)) (sym h) (head_in (age r) (ages_in row d k reads)))
        | inr h ↦ elim rest [
          | inl none ↦ inl (h ∙ none)
          | inr has ↦ inr (subst (Contains (age r ∷ ages_in row d k reads)) (sym h) (tail_in (age r) (ages_in row d k reads) (depth_of row d reads k) has))
        ]
      ]

  -- a read of the image has one of its ages
  pub read_among : (reads : List PlacedRead) (r : PlacedRead) → Contains reads r → (r.g == k) ≡ true → Contains (ages_in row d k reads) (age r)
  read_among [] r has is = absurd (none_in r has)
  read_among (q ∷ reads) r has is = by (q.g == k) refl (λ h. read_among reads r h is)
    where
      by : (b : Bool) → (q.g == k) ≡ b → (Contains reads r → Contains (ages_in row d k reads) (age r)) → Contains (more q reads b) (age r)
      by true e rest = elim (one_of q reads r has) [
        | inl h ↦ subst (λ (x : PlacedRead). Contains (age q ∷ ages_in row d k reads) (age x)) h (head_in (age q) (ages_in row d k reads))
        | inr h ↦ tail_in (age q) (ages_in row d k reads) (age r) (rest h)
      ]
      by false e rest = elim (one_of q reads r has) [
        | inl h ↦ absurd (let f : false ≡ true = sym e ∙ ap (λ (x : PlacedRead). x.g == k) h ∙ is in let g : ⊥ = cc in g)
        | inr h ↦ rest h
      ]

module _ (p : Plan) (g : ℕ) where
  abbrev all : List ℕ
  all = ages_in p.system.stencils.width p.delays (place_in p g) (placed_reads p.system)

  pub are_ages : AreAges p g (ages_of p g)
  are_ages = picked all (suc (P.depth_of p g)) (λ a has. let most = no_deeper p.system.stencils.width p.delays (place_in p g) (placed_reads p.system) a has in let h : a < suc (P.depth_of p g) = omega (arith, most) in h)

  pub ages_once : (ages : List ℕ) → AreAges p g ages → ages ≡ ages_of p g
  ages_once ages are = distinct_once all ages (ages_of p g) are are_ages

  pub last_age : last_of 0 (ages_of p g) ≡ P.depth_of p g
  last_age = last_is (ages_of p g) (P.depth_of p g) are_ages.ascending
      (λ a has. no_deeper p.system.stencils.width p.delays (place_in p g) (placed_reads p.system) a ((are_ages.same a).0 has))
      (elim (depth_there p.system.stencils.width p.delays (place_in p g) (placed_reads p.system)) [ inl none ↦ inl none | inr has ↦ inr ((are_ages.same (P.depth_of p g)).1 has) ])

-- no depth is above the bits, where each width is at least 1
module _ (f : ℕ → ℕ) where
  depth_within : (from : ℕ) (ws : List ℕ) (k : ℕ) → k < length ws → 1 ≤ slice_index ws k → f (from + k) ≤ sum_by (λ (x : ℕ × ℕ). x.1 * f x.0) (enumerate_from from ws)
  depth_within from [] k lt some = absurd (omega (arith, lt))
  depth_within from (w ∷ ws) zero lt some =
      let sum = sum_by-cons (λ (x : ℕ × ℕ). x.1 * f x.0) (from, w) (enumerate_from (from + 1) ws) in
      let here : f (from + 0) ≡ f from = ap f (omega arith) in
      let one : 1 * f from ≤ w * f from = times some in
      omega (arith, sum, here, one)
    where
      times : 1 ≤ w → 1 * f from ≤ w * f from
      times h = mul-le-mul_right (f from) h
  depth_within from (w ∷ ws) (suc k) lt some =
      let sum = sum_by-cons (λ (x : ℕ × ℕ). x.1 * f x.0) (from, w) (enumerate_from (from + 1) ws) in
      let rest = depth_within (from + 1) ws k (let h : k < length ws = omega (arith, lt) in h) some in
      let same : f (from + 1 + k) ≡ f (from + suc k) = ap f (omega arith) in
      omega (arith, sum, rest, same)

All-at : {X : Type 0} (P : X → Type 0) (xs : List X) (x : X) → Contains xs x → All P xs → P x
All-at P xs x (k, lt, e) each = subst P e (each k x lt)

Contains-map : {X Y : Type 0} (f : X → Y) (xs : List X) (x : X) → Contains xs x → Contains (map f xs) (f x)
Contains-map f xs x (k, lt, e) = (k, (let h : k < length (map f xs) = omega (arith, lt, length-map xs f) in h), get_or-map f xs k x (f x) lt ∙ ap f e)

pub depth_most : (p : Plan) → IsPlan p → (g : ℕ) → IsKept p.system.stencils.images g → P.depth_of p g ≤ MAX_BUFFER_BITS
depth_most p is g kept =
    let images = p.system.stencils.images in
    let none : Image = record { number = 0; width = 0 } in
    let k = place images g in
    let some = (is.system.stencils.images.widths k none kept).some in
    let here : slice_index (widths p.system) k ≡ (slice_index_or images k none).width = get_or-map (λ (i : Image). i.width) images k none 0 kept in
    let long = length-map images (λ (i : Image). i.width) in
    let bound = depth_within (λ j. depth_of p.system.stencils.width p.delays (placed_reads p.system) j) 0 (widths p.system) k (omega (arith, long, kept)) (omega (arith, here, some)) in
    let most = is.within.few_bits in
    let same : 0 + k ≡ k = omega arith in
    let moved = ap (λ j. depth_of p.system.stencils.width p.delays (placed_reads p.system) j) same in
    omega (arith, bound, most, moved)

-- a live read of a plan
module _ (p : Plan) (is : IsPlan p) (r : LiveRead) (has : Contains p.system.stencils.reads r) where
  abbrev images : List Image
  images = p.system.stencils.images

  abbrev row : ℕ
  row = p.system.stencils.width

  pub between : IsRead row p.system.stencils.height p.system.stencils.inputs images r
  between = All-at (IsRead row p.system.stencils.height p.system.stencils.inputs images) p.system.stencils.reads r has is.system.stencils.reads.between

  pub placed_in : Contains (placed_reads p.system) (placed images r)
  placed_in = Contains-map (placed images) p.system.stencils.reads r has

  pub near : IsNear (offset row (placed images r))
  near = All-at (λ x. IsNear (offset row x)) (placed_reads p.system) (placed images r) placed_in (system_form p.system is.system).reads_are.near

  pub due : pos 0 ≤ℤ read_age p r
  due = let least = All-at (λ x. pos p.system.age ≤ℤ age_of row p.delays x) (placed_reads p.system) (placed images r) placed_in is.causal.ages in omega (arith, ints, least)

  pub age_is : (n : ℕ) → n ≡ unsigned_abs (read_age p r) → pos n ≡ read_age p r
  age_is n e = abs_of (read_age p r) n due e
    where
      abs_of : (z : ℤ) (n : ℕ) → pos 0 ≤ℤ z → n ≡ unsigned_abs z → pos n ≡ z
      abs_of (pos m) n h e = ap pos e
      abs_of (negsuc m) n h e = absurd (omega (arith, ints, h))

  pub age_among : (n : ℕ) → n ≡ unsigned_abs (read_age p r) → Contains (ages_of p r.g) n
  age_among n e =
      let here : (place images r.g == place images r.g) ≡ true = same_tests (place images r.g) (place images r.g) refl in
      let among = read_among row p.delays (place_in p r.g) (placed_reads p.system) (placed images r) placed_in here in
      subst (Contains (ages_of p r.g)) (sym e) (((are_ages p r.g).same (unsigned_abs (read_age p r))).1 among)
