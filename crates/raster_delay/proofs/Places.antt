-- Reads by place are in the form that a system's constraints need.
use Rattle.std.proofs.Common.{◌≡◌, ◌<◌, ◌≤◌, ◌∙◌, ℕ, ℤ, suc, pos, negsuc, true, false, Equal, List, length, slice_index_or, ◌*◌, ap, sym, arith, inl, inr}
use Rattle.std.specs.Prelude.{◌+ℤ◌, ◌*ℤ◌, ◌<ℤ◌, neg_ℤ}
use Rattle.std.specs.Ordering.{nat_cmp}
use Rattle.std.proofs.Math.IntN.{pos-*ℤ-pos, negsuc-*ℤ-pos}
use Rattle.std.proofs.Math.Nat.{mul-le-mul_right}
use Rattle.std.proofs.lemmas.Int.{ints}
use Rattle.std.proofs.lemmas.Bool.{cases_lt, cases_eq}
use Rattle.std.proofs.lemmas.Bool.Decides.{nat_tests}
use Rattle.std.proofs.lemmas.List.{get_or-map, length-map}
use Rattle.std.proofs.lemmas.List.Elements.{All-map}
use Rattle.dk_base.specs.declared.stencils.Image.{Image}
use Rattle.dk_base.specs.declared.stencils.LiveRead.{LiveRead}
use Rattle.dk_base.specs.Stencils.{Stencils, place, IsKept, Ascends, IsStencils}
use Rattle.dk_base.proofs.Orders.{at_place, kept_at, number_at, place_at}
use Rattle.raster_delay.specs.declared.placed.PlacedRead.{PlacedRead}
use Rattle.raster_delay.specs.Delays.{offset, AreReads, IsNear, IsForm}
use Rattle.raster_delay.specs.Placing.{placed, reads_of}
use Rattle.raster_delay.specs.Systems.{System, IsSystem, image_count, widths, placed_reads}

abbrev none : Image
none = record { number = 0; width = 0 }

module _ (images : List Image) (up : Ascends images) where
  pub place_less : (a b : ℕ) → IsKept images a → IsKept images b → a < b → place images a < place images b
  place_less a b ka kb lt =
      let na = at_place images a none ka in
      let nb = at_place images b none kb in
      elim (cases_lt (place images a) (place images b)) [
        | inl done ↦ done
        | inr le ↦ elim (cases_eq (place images a) (place images b)) [
          | inl e ↦ absurd (omega (arith, na, nb, ap (λ k. (slice_index_or images k none).number) e))
          | inr ne ↦ let l = up (place images b) (place images a) none (omega arith) ka in absurd (omega (arith, na, nb, l))
        ]
      ]

  pub place_le : (a b : ℕ) → IsKept images a → IsKept images b → a ≤ b → place images a ≤ place images b
  place_le a b ka kb le = elim (cases_eq a b) [
    | inl e ↦ omega (arith, ap (place images) e)
    | inr ne ↦ omega (arith, place_less a b ka kb (omega arith))
  ]

cmp_equal : (a n : ℕ) → nat_cmp a n ≡ Equal → a ≡ n
cmp_equal a n h = grind (arith, nat_tests, h)

-- what a search finds is the place
pub found_place : (images : List Image) (n i : ℕ) (d : Image) → Ascends images → i < length images → nat_cmp (slice_index_or images i d).number n ≡ Equal
    → IsKept images n × (i ≡ place images n)
found_place images n i d up within found =
    let at = cmp_equal _ n found in
    (kept_at images i n d within at, sym (place_at images i d up within) ∙ ap (place images) at)

pub no_is_no : false ≡ true → ⊥
no_is_no h = let e : ⊥ = cc in e

near_offset : (w h : ℕ) (dy dx : ℤ) → w ≤ 4096 → h ≤ 4096 → neg_ℤ (pos h) <ℤ dy → dy <ℤ pos h → neg_ℤ (pos w) <ℤ dx → dx <ℤ pos w → IsNear (dy *ℤ pos w +ℤ dx)
near_offset w h (pos a) dx columns rows l1 u1 l2 u2 =
    let small : a ≤ 4095 = omega (arith, ints, u1, rows) in
    let times : a * w ≤ 4095 * w = mul-le-mul_right w small in
    let product : pos a *ℤ pos w ≡ pos (a * w) = pos-*ℤ-pos a w in
    (omega (arith, ints, product, times, l2, columns), omega (arith, ints, product, times, u2, columns))
near_offset w h (negsuc a) dx columns rows l1 u1 l2 u2 =
    let small : suc a ≤ 4095 = omega (arith, ints, l1, rows) in
    let times : suc a * w ≤ 4095 * w = mul-le-mul_right w small in
    (rw negsuc-*ℤ-pos (omega (arith, ints, times, l2, columns)), rw negsuc-*ℤ-pos (omega (arith, ints, times, u2, columns)))

module _ (s : Stencils) (is : IsStencils s) where
  -- an image that is no input follows the inputs
  pub place_no_input : (f : ℕ) → IsKept s.images f → s.inputs ≤ f → s.inputs ≤ place s.images f
  place_no_input f kept le = elim (cases_lt (place s.images f) s.inputs) [
    | inl low ↦
        let at = at_place s.images f none kept in
        let n = number_at s.images (place s.images f) none kept in
        let own = is.images.inputs_first (place s.images f) low in
        absurd (omega (arith, at, n, own, low, le))
    | inr high ↦ high
  ]

  pub placed_are : AreReads s.width s.inputs (length s.images) (reads_of s.images s.reads)
  placed_are = record {
    earlier = All-map (λ r. r.g < r.f) (placed s.images) s.reads (λ k d lt.
        let r = is.reads.between k d lt in place_less s.images is.images.ascending _ _ r.source_kept r.reader_kept r.earlier);
    readers = All-map (λ r. s.inputs ≤ r.f) (placed s.images) s.reads (λ k d lt. let r = is.reads.between k d lt in place_no_input _ r.reader_kept r.no_input);
    among = All-map (λ r. r.f < length s.images) (placed s.images) s.reads (λ k d lt. (is.reads.between k d lt).reader_kept);
    near = All-map (λ r. IsNear (offset s.width r)) (placed s.images) s.reads (λ k d lt.
        let r = is.reads.between k d lt in
        near_offset s.width s.height (slice_index_or s.reads k d).dy (slice_index_or s.reads k d).dx is.frame.most_columns is.frame.most_rows r.down.low r.down.high r.across.low r.across.high);
    in_order = λ i j d le lt.
        let none : LiveRead = record { f = 0; g = 0; dx = pos 0; dy = pos 0 } in
        let size = length-map s.reads (placed s.images) in
        let short : j < length s.reads = omega (arith, size) in
        let ki = (is.reads.between i none (omega arith)).reader_kept in
        let kj = (is.reads.between j none short).reader_kept in
        let order : (slice_index_or s.reads i none).f ≤ (slice_index_or s.reads j none).f = elim (cases_eq i j) [
          | inl e ↦ omega (arith, ap (λ k. (slice_index_or s.reads k none).f) e)
          | inr ne ↦ (is.reads.in_order i j none (omega arith) short).reader
        ] in
        omega (
          arith,
          place_le s.images is.images.ascending _ _ ki kj order,
          ap (λ (r : PlacedRead). r.f) (get_or-map (placed s.images) s.reads i none d (omega arith)),
          ap (λ (r : PlacedRead). r.f) (get_or-map (placed s.images) s.reads j none d short),
        );
  }

-- a system is within the limits that its constraints need
pub system_form : (s : System) → IsSystem s → IsForm s.stencils.width s.age s.stencils.inputs (image_count s) (widths s) (placed_reads s)
system_form s is = record {
  row_limit = is.stencils.frame.most_columns;
  age_limit = is.age_limit;
  some_inputs = is.stencils.images.some_inputs;
  inputs_kept = is.stencils.images.inputs_kept;
  image_limit = is.stencils.images.most_images;
  count = omega (arith, length-map s.stencils.reads (placed s.stencils.images), is.stencils.reads.most_reads);
  one_width_each = length-map s.stencils.images (λ i. i.width);
  bits = All-map (λ w. w ≤ 64) (λ (i : Image). i.width) s.stencils.images (λ k d lt. (is.stencils.images.widths k d lt).most);
  reads_are = placed_are s.stencils is.stencils;
}
