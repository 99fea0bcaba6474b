-- Live reads by place are in order, so that none occurs twice.
use Rattle.std.proofs.Common.{◌≡◌, ◌<◌, ◌≤◌, ℕ, pos, List, map, length, slice_index_or, ◌+◌, ◌∙◌, sym, ap, subst, arith, inl, inr}
use Rattle.std.proofs.lemmas.Int.{ints}
use Rattle.std.proofs.lemmas.Bool.{cases_eq}
use Rattle.std.proofs.lemmas.List.{get_or-map, get_or_default, length-map}
use Rattle.dk_base.specs.declared.stencils.Image.{Image}
use Rattle.dk_base.specs.declared.stencils.LiveRead.{LiveRead}
use Rattle.dk_base.specs.Stencils.{place, IsKept, Ascends, IsBefore}
use Rattle.dk_base.proofs.Orders.{at_place}
use Rattle.raster_delay.specs.declared.placed.PlacedRead.{PlacedRead}
use Rattle.raster_delay.specs.Placing.{placed}
use Rattle.raster_delay.specs.Systems.{System, IsSystem, placed_reads}
use Rattle.raster_delay.proofs.Places.{place_le}
use Rattle.plan_check.specs.Orders.{by_place, IsEarlier, AreSorted}

-- not one before the other and the other before the one
pub not_both : (a b : PlacedRead) → IsEarlier a b → IsEarlier b a → ⊥
not_both a b p q =
    let pf = p.reader in
    let qf = q.reader in
    let e : a.f ≡ b.f = omega (arith, pf, qf) in
    let pg = p.source e in
    let qg = q.source (sym e) in
    let g : a.g ≡ b.g = omega (arith, pg, qg) in
    let py = p.rows e g in
    let qy = q.rows (sym e) (sym g) in
    let y : a.dy ≡ b.dy = omega (arith, ints, py, qy) in
    let px = p.columns e g y in
    let qx = q.columns (sym e) (sym g) (sym y) in
    absurd (omega (arith, ints, px, qx))

module _ (images : List Image) (up : Ascends images) where
  place_same : (a b : ℕ) → IsKept images a → IsKept images b → place images a ≡ place images b → a ≡ b
  place_same a b ka kb e =
      let none : Image = record { number = 0; width = 0 } in
      omega (arith, at_place images a none ka, at_place images b none kb, ap (λ k. (slice_index_or images k none).number) e)

  pub earlier_placed : (a b : LiveRead) → IsKept images a.f → IsKept images a.g → IsKept images b.f → IsKept images b.g → IsBefore a b → IsEarlier (placed images a) (placed images b)
  earlier_placed a b af ag bf bg h = record {
    reader = place_le images up a.f b.f af bf h.reader;
    source = λ e. place_le images up a.g b.g ag bg (h.source (place_same a.f b.f af bf e));
    rows = λ e g. h.rows (place_same a.f b.f af bf e) (place_same a.g b.g ag bg g);
    columns = λ e g y. h.columns (place_same a.f b.f af bf e) (place_same a.g b.g ag bg g) y;
  }

pub AreSorted-placed : (s : System) → IsSystem s → AreSorted (placed_reads s)
AreSorted-placed s is i j d lt below =
    let none : LiveRead = record { f = 0; g = 0; dx = pos 0; dy = pos 0 } in
    let images = s.stencils.images in
    let reads = s.stencils.reads in
    let no_place : PlacedRead = record { f = 0; g = 0; dx = pos 0; dy = pos 0 } in
    let size : length (map by_place (placed_reads s)) ≡ length reads = length-map (placed_reads s) by_place ∙ length-map reads (placed images) in
    let short : j < length reads = omega (arith, size, below) in
    let at : (k : ℕ) → k < length reads → slice_index_or (map by_place (placed_reads s)) k d ≡ by_place (placed images (slice_index_or reads k none)) =
    λ k h. get_or-map by_place (placed_reads s) k no_place d (omega (arith, h, length-map reads (placed images))) ∙ ap by_place (get_or-map (placed images) reads k none no_place h) in
    let a = slice_index_or reads i none in
    let b = slice_index_or reads j none in
    let ra = is.stencils.reads.between i none (omega arith) in
    let rb = is.stencils.reads.between j none short in
    let here = earlier_placed images is.stencils.images.ascending a b ra.reader_kept ra.source_kept rb.reader_kept rb.source_kept (is.stencils.reads.in_order i j none lt short) in
    subst (λ x. IsBefore x (slice_index_or (map by_place (placed_reads s)) j d)) (sym (at i (omega (arith, lt, short))))
    (subst (λ y. IsBefore (by_place (placed images a)) y) (sym (at j short)) here)

-- of two reads in order the one comes before the other
sorted_at : (reads : List PlacedRead) → AreSorted reads → (i j : ℕ) (d : PlacedRead) → i < j → j < length reads → IsEarlier (slice_index_or reads i d) (slice_index_or reads j d)
sorted_at reads sorted i j d lt below =
    let before = sorted i j (by_place d) lt (omega (arith, below, length-map reads by_place)) in
    subst (λ x. IsBefore x (by_place (slice_index_or reads j d))) (get_or-map by_place reads i d (by_place d) (omega (arith, lt, below)))
    (subst (λ y. IsBefore (slice_index_or (map by_place reads) i (by_place d)) y) (get_or-map by_place reads j d (by_place d) below) before)

pub in_order : (s : System) → IsSystem s → (i j : ℕ) (d : PlacedRead) → i < j → j < length (placed_reads s) → IsEarlier (slice_index_or (placed_reads s) i d) (slice_index_or (placed_reads s) j d)
in_order s is = sorted_at (placed_reads s) (AreSorted-placed s is)

-- no two reads at places of a list in order are the same, and none is the same as one that comes before or after its place
module _ (reads : List PlacedRead) (sorted : AreSorted reads) (r : PlacedRead) (m : ℕ) (d : PlacedRead) (within : m < length reads) where
  pub not_before : IsEarlier (slice_index_or reads m d) r → (k : ℕ) (e : PlacedRead) → k < m + 1 → slice_index_or reads k e ≡ r → ⊥
  not_before h k e lt same =
      let at : slice_index_or reads k d ≡ r = get_or_default reads k d e (omega (arith, lt, within)) ∙ same in
      elim (cases_eq k m) [
        | inl is ↦ not_both r r (itself (ap (λ j. slice_index_or reads j d) (sym is) ∙ at)) (itself (ap (λ j. slice_index_or reads j d) (sym is) ∙ at))
        | inr ne ↦ not_both (slice_index_or reads m d) r h (subst (λ x. IsEarlier x (slice_index_or reads m d)) at (sorted_at reads sorted k m d (omega (arith, lt)) within))
      ]
    where
      itself : slice_index_or reads m d ≡ r → IsEarlier r r
      itself same = subst (λ x. IsEarlier x r) same h

  pub not_behind : (IsEarlier (slice_index_or reads m d) r → ⊥) → (slice_index_or reads m d ≡ r → ⊥) → (k : ℕ) (e : PlacedRead) → m ≤ k → k < length reads → slice_index_or reads k e ≡ r → ⊥
  not_behind not_early not_same k e le below same =
      let at : slice_index_or reads k d ≡ r = get_or_default reads k d e below ∙ same in
      elim (cases_eq k m) [
        | inl is ↦ not_same (ap (λ j. slice_index_or reads j d) (sym is) ∙ at)
        | inr ne ↦ not_early (subst (λ x. IsEarlier (slice_index_or reads m d) x) at (sorted_at reads sorted m k d (omega (arith, le)) below))
      ]
