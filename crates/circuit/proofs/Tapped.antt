-- The tap of a live read has the pixel that is read.
use Rattle.std.proofs.Common.{◌≡◌, ℕ, suc, ◌+◌, ◌*◌, ◌/◌, ◌%◌, ◌<◌, List, length, Some, sym, ap, subst, ◌∙◌, arith, mul_comm}
use Rattle.std.specs.Prelude.{ℤ, pos, negsuc, ◌+ℤ◌, ◌-ℤ◌, ◌*ℤ◌, IsTrue, slice_get}
use Rattle.std.proofs.lemmas.Int.{ints}
use Rattle.std.proofs.lemmas.Nat.{div-add-mod', mod_below, mul-add-lt, div_below}
use Rattle.dk_base.specs.Types.{IsType, IsIn}
use Rattle.dk_base.specs.Numbers.{number}
use Rattle.dk_base.specs.Frames.{Size, area, column, row, frame_of, in_frame, raster_offset, picture_at}
use Rattle.dk_base.proofs.Codes.{number_code}
use Rattle.dk_base.proofs.Rasters.{below_is, inside_is, at_frame}
use Rattle.wiring.specs.declared.netlist.Net.{Net}
use Rattle.wiring.specs.Snapshot.{Snapshot, net_value}
use Rattle.pointwise_ir.specs.Programs.{Program}
use Rattle.buffer_plan.specs.Plans.{Plan, ages_of, delay_of}
use Rattle.circuit.specs.Rounds.{Rounds, type_at, pixel_count, pictures_in, pixel, pixel_bits}
use Rattle.circuit.specs.Taps.{taps_at, TapsAreRight}

-- a number times another, one step further
step_times : (a : ℕ) (d : ℤ) (b n : ℕ) → pos a +ℤ d ≡ pos b → pos (b * n) ≡ pos (a * n) +ℤ (d *ℤ pos n)
step_times a (pos d) b n e =
    let sum : a + d ≡ b = omega (arith, ints, e) in
    let m : b * n ≡ (a + d) * n = ap (λ x. x * n) (sym sum) in
    ap pos (omega (arith, m))
step_times a (negsuc d) b n e =
    let sum : a ≡ b + suc d = omega (arith, ints, e) in
    let m : a * n ≡ (b + suc d) * n = ap (λ x. x * n) sum in
    omega (arith, ints, m)

summed : (k base across col across' col' : ℕ) (down dx : ℤ) → k ≡ base + (across + col) → pos across' ≡ pos across +ℤ down → pos col +ℤ dx ≡ pos col' → pos (base + (across' + col')) ≡ pos k +ℤ (down +ℤ dx)
summed k base across col across' col' down dx e f g = omega (arith, ints, e, f, g)

-- the pixel that is read, in the same frame
pub record Reached (size : Size) (k : ℕ) (dx dy : ℤ) (q : ℕ) : Type 0 where
  pub further : pos q ≡ pos k +ℤ raster_offset size dx dy
  pub same_frame : frame_of size q ≡ frame_of size k
  pub at_column : pos (column size q) ≡ pos (column size k) +ℤ dx
  pub at_row : pos (row size q) ≡ pos (row size k) +ℤ dy

pub reached : (size : Size) (k : ℕ) (dx dy : ℤ) → IsTrue (in_frame size (pos (column size k) +ℤ dx) (pos (row size k) +ℤ dy)) → (q : ℕ) × Reached size k dx dy q
reached size k dx dy inside =
    let both = inside_is size (pos (column size k) +ℤ dx) (pos (row size k) +ℤ dy) inside in
    let x = below_is (pos (column size k) +ℤ dx) size.width both.0 in
    let y = below_is (pos (row size k) +ℤ dy) size.height both.1 in
    let there = at_frame size (k / area size) x.0 y.0 x.2 y.2 in
    let whole = div-add-mod' k (area size) in
    let part = div-add-mod' (k % area size) size.width in
    let down : pos (y.0 * size.width) ≡ pos (row size k * size.width) +ℤ (dy *ℤ pos size.width) = step_times (row size k) dy y.0 size.width y.1 in
    let q : ℕ = k / area size * area size + (y.0 * size.width + x.0) in (
      q,
      record {
        further = summed k (k / area size * area size) (row size k * size.width) (column size k) (y.0 * size.width) x.0 (dy *ℤ pos size.width) dx (omega (arith, whole, part)) down x.1;
        same_frame = there.0;
        at_column = ap pos there.1 ∙ sym x.1;
        at_row = ap pos there.2 ∙ sym y.1;
      },
    )

-- a pixel of the same frame is one of the rounds
within_rounds : (size : Size) (n k q : ℕ) → 0 < area size → k < n * area size → frame_of size q ≡ frame_of size k → q < n * area size
within_rounds size n k q some low same =
    let a : ℕ = area size in
    let frame : k / a < n = div_below k a n some low in
    let rest : q % a < a = mod_below q a some in
    let whole : q ≡ q / a * a + q % a = sym (div-add-mod' q a) in
    let inner : q / a * a + q % a < n * a = subst (λ (z : ℕ). q / a * a + q % a < z) (mul_comm a n) (mul-add-lt (q / a) a (q % a) n (subst (λ (i : ℕ). i < n) (sym same) frame) rest) in
    subst (λ (i : ℕ). i < n * a) (sym whole) inner

module _ (p : Program) (rounds : Rounds) (plan : Plan) (taps : List (List Net)) (s : Snapshot) (t f g : ℕ) (some : 0 < area p.size) (right : TapsAreRight p rounds plan taps t s g)
    (typed : IsType (type_at p g)) (values : (k : ℕ) (x y : ℤ) → k < length rounds → IsIn (type_at p g) (picture_at (pictures_in p rounds k) g x y)) where
  -- at pixel q of image f, the tap of the read's age
  pub tap_is : (q : ℕ) (dx dy : ℤ) (k age : ℕ) (tap : Net) → q + delay_of plan f ≡ t → q < pixel_count p rounds → IsTrue (in_frame p.size (pos (column p.size q) +ℤ dx) (pos (row p.size q) +ℤ dy)) →
      pos age ≡ pos (delay_of plan f) -ℤ pos (delay_of plan g) -ℤ raster_offset p.size dx dy → slice_get (ages_of plan g) k ≡ Some age → slice_get (taps_at plan taps g) k ≡ Some tap →
      number (type_at p g) (net_value s tap) ≡ picture_at (pictures_in p rounds (frame_of p.size q)) g (pos (column p.size q) +ℤ dx) (pos (row p.size q) +ℤ dy)
  tap_is q dx dy k age tap since low inside aged ea et =
      let r = reached p.size q dx dy inside in
      let to : ℕ = r.0 in
      let at : Reached p.size q dx dy to = r.1 in
      let within : to < pixel_count p rounds = within_rounds p.size (length rounds) q to some low at.same_frame in
      let due : to + age + delay_of plan g ≡ t = omega (arith, ints, at.further, aged, since) in
      let is : net_value s tap ≡ pixel_bits p rounds g to = right k age to tap ea et due within in
      let frame : frame_of p.size q < length rounds = div_below q (area p.size) (length rounds) some low in
      let there : frame_of p.size to < length rounds = subst (λ (i : ℕ). i < length rounds) (sym at.same_frame) frame in
      ap (number (type_at p g)) is
      ∙ number_code (type_at p g) (pixel p rounds g to) typed (values (frame_of p.size to) (pos (column p.size to)) (pos (row p.size to)) there)
      ∙ ap (λ (i : ℕ). picture_at (pictures_in p rounds i) g (pos (column p.size to)) (pos (row p.size to))) at.same_frame
      ∙ ap (λ (x : ℤ). picture_at (pictures_in p rounds (frame_of p.size q)) g x (pos (row p.size to))) at.at_column
      ∙ ap (picture_at (pictures_in p rounds (frame_of p.size q)) g (pos (column p.size q) +ℤ dx)) at.at_row
