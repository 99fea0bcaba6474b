-- Lists of images and of reads in order.
use Rattle.std.proofs.Common.{◌≡◌, ℕ, zero, suc, ◌+◌, ◌-◌, ◌<◌, ◌≤◌, ◌==◌, true, false, not, List, [], ◌∷◌, length, slice_index, slice_index_or, Result, Ok, Err, is_ok, Less, Equal, Greater, refl, ap, subst, arith, inl, inr}
use Rattle.std.specs.Ordering.{nat_cmp, ordering_index}
use Rattle.std.specs.List.Sorted.{IsBinarySearchResult, IsSearchInRange}
use Rattle.std.proofs.lemmas.Int.{ints}
use Rattle.std.proofs.lemmas.Bool.{cases_lt}
use Rattle.std.proofs.lemmas.Bool.Decides.{nat_tests}
use Rattle.std.proofs.lemmas.List.{get_or-map, get_or_default}
use Rattle.std.proofs.lemmas.List.Sums.{prefix_len_stops, prefix_len_passes}
use Rattle.dk_base.specs.declared.stencils.Image.{Image}
use Rattle.dk_base.specs.declared.stencils.LiveRead.{LiveRead}
use Rattle.dk_base.specs.Stencils.{numbers, place, IsKept, Ascends, IsBefore, AreInOrder}

-- one more element
pub one_more : {X : Type 0} (P : X → Type 0) → (xs : List X) (i : ℕ) (x : X) → i < length xs → ((k : ℕ) (d : X) → k < i → P (slice_index_or xs k d)) → P (slice_index_or xs i x)
    → (k : ℕ) (d : X) → k < i + 1 → P (slice_index_or xs k d)
one_more {X} P xs i x within before here k d h = elim (cases_lt k i) [
  | inl low ↦ before k d low
  | inr high ↦
      let Q : ℕ → Type 0 = λ j. P (slice_index_or xs j d) in
      let e : i ≡ k = omega (arith, h, high) in
      subst Q e (subst P (get_or_default xs i x d within) here)
]

-- a relation that passes on holds between all, where it holds between neighbours
from_gap : {X : Type 0} (R : X → X → Type 0) → ((a b c : X) → R a b → R b c → R a c) → (xs : List X)
    → ((k : ℕ) (d : X) → k + 1 < length xs → R (slice_index_or xs k d) (slice_index_or xs (k + 1) d))
    → (n i j : ℕ) (d : X) → j ≡ i + suc n → j < length xs → R (slice_index_or xs i d) (slice_index_or xs j d)
from_gap {X} R passes xs next zero i j d e h =
    let P : ℕ → Type 0 = λ k. R (slice_index_or xs i d) (slice_index_or xs k d) in
    let f : i + 1 ≡ j = omega (arith, e) in
    subst P f (next i d (omega (arith, e, h)))
from_gap {X} R passes xs next (suc n) i j d e h =
    let P : ℕ → Type 0 = λ k. R (slice_index_or xs i d) (slice_index_or xs k d) in
    let f : (i + suc n) + 1 ≡ j = omega (arith, e) in
    subst P f (passes _ _ _ (from_gap R passes xs next n i (i + suc n) d refl (omega (arith, e, h))) (next (i + suc n) d (omega (arith, e, h))))

pub ascends_by_next : (images : List Image)
    → ((k : ℕ) (d : Image) → k + 1 < length images → (slice_index_or images k d).number < (slice_index_or images (k + 1) d).number) → Ascends images
ascends_by_next images next i j d h g =
    from_gap (λ a b. a.number < b.number) (λ a b c p q. omega (arith, p, q)) images next (j - i - 1) i j d (omega (arith, h)) g

before_passes : (a b c : LiveRead) → IsBefore a b → IsBefore b c → IsBefore a c
before_passes a b c p q =
    let pf = p.reader in let qf = q.reader in
    record {
      reader = omega (arith, pf, qf);
      source = λ e. let f : a.f ≡ b.f = omega (arith, e, pf, qf) in let g : b.f ≡ c.f = omega (arith, e, pf, qf) in let x = p.source f in let y = q.source g in omega (arith, x, y);
      rows = λ e s.
          let f : a.f ≡ b.f = omega (arith, e, pf, qf) in
          let g : b.f ≡ c.f = omega (arith, e, pf, qf) in
          let x = p.source f in
          let y = q.source g in
          let k = p.rows f (omega (arith, x, y, s)) in
          let l = q.rows g (omega (arith, x, y, s)) in
          omega (arith, ints, k, l);
      columns = λ e s r.
          let f : a.f ≡ b.f = omega (arith, e, pf, qf) in
          let g : b.f ≡ c.f = omega (arith, e, pf, qf) in
          let x = p.source f in
          let y = q.source g in
          let fs : a.g ≡ b.g = omega (arith, x, y, s) in
          let gs : b.g ≡ c.g = omega (arith, x, y, s) in
          let k = p.rows f fs in
          let l = q.rows g gs in
          let m = p.columns f fs (omega (arith, ints, k, l, r)) in
          let n = q.columns g gs (omega (arith, ints, k, l, r)) in
          omega (arith, ints, m, n);
    }

pub in_order_by_next : (reads : List LiveRead)
    → ((k : ℕ) (d : LiveRead) → k + 1 < length reads → IsBefore (slice_index_or reads k d) (slice_index_or reads (k + 1) d)) → AreInOrder reads
in_order_by_next reads next i j d h g = from_gap IsBefore before_passes reads next (j - i - 1) i j d (omega (arith, h)) g

-- the number of the image at a place
pub number_at : (images : List Image) (k : ℕ) (d : Image) → k < length images → slice_index (numbers images) k ≡ (slice_index_or images k d).number
number_at images k d h = get_or-map (λ i. i.number) images k d 0 h

-- an image is kept where its number is, and is at its place
pub kept_at : (images : List Image) (k n : ℕ) (d : Image) → k < length images → (slice_index_or images k d).number ≡ n → IsKept images n
kept_at images k n d h e = elim (cases_lt (place images n) (length images)) [
  | inl low ↦ low
  | inr high ↦
      let not_it : not ((slice_index_or images k d).number == n) ≡ true = prefix_len_passes (λ i. not (i.number == n)) images k d (omega (arith, h, high)) in
      absurd (differs (slice_index_or images k d).number n e not_it)
]
  where
    differs : (a b : ℕ) → a ≡ b → not (a == b) ≡ true → ⊥
    differs a b e f = grind (arith, nat_tests, e, f)

pub at_place : (images : List Image) (n : ℕ) (d : Image) → IsKept images n → (slice_index_or images (place images n) d).number ≡ n
at_place images n d h = equal (slice_index_or images (place images n) d).number n (prefix_len_stops (λ i. not (i.number == n)) images d h)
  where
    equal : (a b : ℕ) → not (a == b) ≡ false → a ≡ b
    equal a b f = grind (arith, nat_tests, f)

-- in order, each image is at its place
pub place_at : (images : List Image) (k : ℕ) (d : Image) → Ascends images → k < length images → place images (slice_index_or images k d).number ≡ k
place_at images k d up h =
    let n = (slice_index_or images k d).number in
    let kept = kept_at images k n d h refl in
    let is = at_place images n d kept in
    elim (cases_lt (place images n) k) [
      | inl low ↦ let l = up (place images n) k d low h in absurd (omega (arith, l, is))
      | inr high ↦ elim (cases_lt k (place images n)) [
        | inl over ↦ let l = up k (place images n) d over kept in absurd (omega (arith, l, is))
        | inr under ↦ omega (arith, high, under)
      ]
    ]

cmp_equal : (a n : ℕ) → nat_cmp a n ≡ Equal → a ≡ n
cmp_equal a n h = grind (arith, nat_tests, h)

cmp_less : (a n : ℕ) → nat_cmp a n ≡ Less → a ≡ n → ⊥
cmp_less a n h e = grind (arith, nat_tests, h, e)

cmp_greater : (a n : ℕ) → nat_cmp a n ≡ Greater → a ≡ n → ⊥
cmp_greater a n h e = grind (arith, nat_tests, h, e)

cmp_rises : (a b n : ℕ) → a ≤ b → ordering_index (nat_cmp a n) ≤ ordering_index (nat_cmp b n)
cmp_rises a b n h = grind (arith, nat_tests, h)

some_image : (images : List Image) (n : ℕ) → IsKept images n → Image
some_image [] n h = absurd (omega (arith, h))
some_image (x ∷ xs) n h = x

-- what a binary search finds
pub searched_kept : (images : List Image) (n : ℕ) (r : Result ℕ ℕ) (d : Image) → Ascends images → IsSearchInRange r (length images) → IsBinarySearchResult (λ y. nat_cmp y.number n) images r
    → (is_ok r ≡ true → IsKept images n) × (IsKept images n → is_ok r ≡ true)
searched_kept images n (Ok i) d up within found = (λ _. kept_at images i n d within (cmp_equal _ n (found d)), λ _. refl)
searched_kept images n (Err i) d up within found = (
  λ h. absurd (let e : ⊥ = cc in e),
  λ kept.
      let parts = found (λ j k c h g. elim (cases_lt j k) [ inl low ↦ cmp_rises _ _ n (let l = up j k c low g in omega (arith, l)) | inr high ↦ let e : j ≡ k = omega (arith, h, high) in rises_same j k c e ]) in
      let is = at_place images n d kept in
      absurd (elim (cases_lt (place images n) i) [
        | inl low ↦ cmp_less _ n (parts.0 (place images n) d (omega arith) low) is
        | inr high ↦ cmp_greater _ n (parts.1 (place images n) d high kept) is
      ]),
)
  where
    rises_same : (j k : ℕ) (c : Image) → j ≡ k → ordering_index (nat_cmp (slice_index_or images j c).number n) ≤ ordering_index (nat_cmp (slice_index_or images k c).number n)
    rises_same j k c e = cmp_rises _ _ n (let f : (slice_index_or images j c).number ≡ (slice_index_or images k c).number = ap (λ m. (slice_index_or images m c).number) e in omega (arith, f))
