-- One image more.
use Rattle.std.proofs.Common.{◌≡◌, ℕ, zero, suc, ◌<◌, Bool, List, [], ◌∷◌, ◌++◌, length, map, take, get_or, Some, refl, sym, ap, subst, ◌∙◌, inr, arith}
use Rattle.std.specs.Prelude.{pos, ◌≤ℤ◌, Contains, filter, slice_get, slice_index_or}
use Rattle.std.specs.List.{All}
use Rattle.std.proofs.lemmas.List.{length-map}
use Rattle.std.proofs.lemmas.Option.{slice_get_within, slice_get-get_or, get_or_from_slice_get}
use Rattle.dk_base.specs.declared.ty.Ty.{Ty}
use Rattle.dk_base.specs.declared.ty.Ty.TheVariants.{Unsigned, Signed}
use Rattle.dk_base.specs.Types.{IsPort, width_of as bits_of_type}
use Rattle.dk_base.specs.declared.stencils.Image.{Image}
use Rattle.dk_base.specs.declared.stencils.LiveRead.{LiveRead}
use Rattle.dk_base.proofs.Orders.{at_place}
use Rattle.raster_delay.specs.declared.placed.PlacedRead.{PlacedRead}
use Rattle.raster_delay.specs.Placing.{placed}
use Rattle.raster_delay.specs.Delays.{age_of}
use Rattle.raster_delay.specs.Systems.{placed_reads}
use Rattle.raster_delay.proofs.Places.{place_less}
use Rattle.wiring.specs.declared.netlist.Net.{Net}
use Rattle.wiring.specs.declared.netlist.Net.TheVariants.{Input}
use Rattle.wiring.specs.declared.netlist.Shape.{Shape}
use Rattle.wiring.specs.Netlist.{Netlist}
use Rattle.net_build.specs.Includes.{Includes}
use Rattle.net_build.specs.Draft.{IsDraft, AllUpdated}
use Rattle.net_build.specs.Runs.{StillBut, NeverStops}
use Rattle.net_build.specs.Control.{IsControlled}
use Rattle.net_build.proofs.Parts.{Includes-refl}
use Rattle.edge_select.specs.declared.frame_tests.FrameTests.{FrameTests}
use Rattle.edge_select.specs.FrameTests.{AddsTests, AreFrameTests, IsApart}
use Rattle.wiring.specs.Rules.{IsPortWidth}
use Rattle.pointwise_ir.specs.Programs.{Program, IsProgram, IsOutput, types_of}
use Rattle.pointwise_ir.specs.Stencils.{AreStencilsOf}
use Rattle.buffer_plan.specs.Plans.{Plan, IsPlan, place_in, read_age}
use Rattle.buffer_plan.proofs.Aged.{placed_in}
use Rattle.circuit.specs.Rounds.{type_at}
use Rattle.circuit.specs.Taps.{Keeps, IsReading, size_in}
use Rattle.circuit.specs.Reads.{reads_in}
use Rattle.circuit.specs.Forms.{Form, IsBuffered, shapes_of, shapes_before}
use Rattle.circuit.specs.Images.{IsImageNet, IsLine, AreBuilt, ports_of, AreBuiltWith}
use Rattle.circuit.proofs.Typing.{entry_or}
use Rattle.circuit.proofs.BodyNets.{read_of, read_is_between}
use Rattle.circuit.proofs.Building.{built_with, entry_kept, place_of_entry}
use Rattle.circuit.proofs.Keeping.{adds_for, apart_now}

-- The image i, at place k among the kept ones.
module _ (b0 : Netlist) (p : Program) (plan : Plan) (form : Form) (k : ℕ) (nets : List Net) (taps : List (List Net)) (i : Image)
    (is_plan : IsPlan plan) (stencils : AreStencilsOf p plan.system.stencils) (at : slice_get plan.system.stencils.images k ≡ Some i) (built : AreBuilt b0 p plan form k nets taps) where
  abbrev images : List Image
  images = plan.system.stencils.images

  here : place_in plan i.number ≡ k
  here = place_of_entry images k i is_plan.system.stencils.images.ascending at

  kept : Keeps plan i.number
  kept = entry_kept images k i at

  low : (h : ℕ) → h < i.number → Keeps plan h → place_in plan h < k
  low h less keeps = (let l = place_less images is_plan.system.stencils.images.ascending h i.number keeps kept less in omega (arith, l, here))

  line_of : (h : ℕ) → h < i.number → Keeps plan h → IsLine b0 p plan form built.copies taps h (slice_index_or nets (place_in plan h) (Input 0))
  line_of h less keeps =
      let none : Image = record { number = 0; width = 0 } in
      subst (λ (j : ℕ). IsLine b0 p plan form built.copies taps j (slice_index_or nets (place_in plan h) (Input 0))) (at_place images h none keeps)
      (built.line (place_in plan h) (slice_index_or images (place_in plan h) none) (low h less keeps) (slice_get-get_or images (place_in plan h) none keeps))

  reader : (r : LiveRead) → Contains (reads_in plan i.number) r → Keeps plan r.g × (r.g < i.number)
  reader r has =
      let (among, of_f) = read_of plan i.number r has in
      let between = read_is_between plan is_plan r among in
      (between.source_kept, (let lt = between.earlier in omega (arith, lt, of_f)))

  aged : (r : LiveRead) → Contains (reads_in plan i.number) r → pos plan.system.age ≤ℤ read_age plan r
  aged r has = at_read (placed_in plan is_plan r (read_of plan i.number r has).0)
    where
      at_read : Contains (placed_reads plan.system) (placed images r) → pos plan.system.age ≤ℤ read_age plan r
      at_read (j, lt, e) = subst (λ (x : PlacedRead). pos plan.system.age ≤ℤ age_of plan.system.stencils.width plan.delays x) e (is_plan.causal.ages j (placed images r) lt)

  pub next_reading : IsReading b0 p plan taps i.number
  next_reading = record {
    stencils = stencils;
    kept = kept;
    there = (let is = stencils.images.sound k i (slice_get_within images k i at) in let same = get_or_from_slice_get images k i i at in subst (λ (x : Image). x.number < length (types_of p)) same (slice_get_within (types_of p) _ is.ty is.typed));
    taps_are = record {
      there = λ g keeps less. (let l = low g less keeps in omega (arith, l, built.tap_count));
      one_each = λ g keeps less. (line_of g less keeps).buffer.one_each;
      net = λ g keeps less. (line_of g less keeps).buffer.net;
      width = λ g keeps less j tap on. (line_of g less keeps).buffer.width j tap on ∙ (line_of g less keeps).width;
    };
  }

  pub next_kept : Keeps plan i.number
  next_kept = kept

  -- the arrays before its own
  pub next_arrays : (b1 : Netlist) → b1.arrays ≡ b0.arrays → b1.arrays ≡ shapes_before form.shapes plan i.number
  next_arrays b1 same = same ∙ built.arrays ∙ ap (λ (n : ℕ). shapes_of form.shapes plan (take n images)) (sym here)

  pub next_built : (b2 b1 : Netlist) (net : Net) (own : List Net) (now before : FrameTests) → AddsTests b1 b0 now before → IsApart built.copies before → AreFrameTests b1 (size_in plan) now → IsImageNet b1 b0 p plan taps i.number net → IsBuffered b2 b1 plan i.number form net own → IsDraft b1 → IsDraft b2 → AreBuiltWith b2 p plan form (suc k) (nets ++ net ∷ []) (taps ++ own ∷ []) now
  next_built b2 b1 net own now before adds apart are image buffered drafted draft =
      built_with b2 b1 b0 p plan form k nets taps i net own is_plan at low reader aged built (adds_for b1 b0 now before built.copies adds built.control apart) image buffered drafted draft now (apart_now b1 b0 now before built.copies adds built.control apart) are

-- an image by its place
pub image_at : (images xs : List Image) (k : ℕ) (d : Image) → xs ≡ images → k < length images → slice_get images k ≡ Some (slice_index_or xs k d)
image_at images xs k d same lt = subst (λ (ys : List Image). slice_get images k ≡ Some (slice_index_or ys k d)) (sym same) (slice_get-get_or images k d lt)

-- with only ports nothing is built
pub built_none : (b : Netlist) (p : Program) (plan : Plan) (form : Form) (enable : Bool) → b ≡ ports_of p enable → AllUpdated b → StillBut b [] [] → NeverStops b → IsControlled b [] → AreBuilt b p plan form 0 [] []
built_none b p plan form enable is updated still stops control = record {
  ports = subst (λ (m : Netlist). Includes m (ports_of p m.enable)) (sym is) (Includes-refl (ports_of p enable));
  net_count = refl;
  tap_count = refl;
  arrays = ap (λ (m : Netlist). m.arrays) is;
  copies = [];
  copied = ap (λ (ss : List Shape). map (λ (s : Shape). s.width) (filter (λ (s : Shape). form.long s.depth) ss)) (sym (ap (λ (m : Netlist). m.arrays) is));
  updated = λ h state. inr (updated h state);
  still = still;
  stops = stops;
  control = control;
  line = λ k i lt at. absurd (let e : ⊥ = omega (arith, lt) in e);
}

-- the widths of ports
port_width : (t : Ty) → IsPort t → IsPortWidth (bits_of_type t)
port_width (Unsigned n) is = is
port_width (Signed n) is = absurd is

widths_of : {X : Type 0} (f : X → ℕ) (xs : List X) (ys : List ℕ) → ys ≡ map f xs → All (λ x. IsPortWidth (f x)) xs → All IsPortWidth ys
widths_of {X = X} f xs ys same each k d lt = subst (λ (zs : List ℕ). IsPortWidth (get_or zs k d)) (sym same) (here xs k d each (let l = length-map xs f in omega (arith, lt, ap length same, l)))
  where
    here : (xs : List X) (k : ℕ) (d : ℕ) → All (λ x. IsPortWidth (f x)) xs → k < length xs → IsPortWidth (get_or (map f xs) k d)
    here [] k d each lt = absurd (let e : ⊥ = omega (arith, lt) in e)
    here (x ∷ xs) zero d each lt = each 0 x (let h : 0 < length (x ∷ xs) = omega arith in h)
    here (x ∷ xs) (suc k) d each lt = here xs k d (λ j e low. each (suc j) e (let h : suc j < length (x ∷ xs) = omega (arith, low) in h)) (let h : k < length xs = omega (arith, lt) in h)

pub din_widths : (p : Program) → IsProgram p → (ys : List ℕ) → ys ≡ map (λ i. bits_of_type i.ty) p.inputs → All IsPortWidth ys
din_widths p is ys same = widths_of (λ i. bits_of_type i.ty) p.inputs ys same (λ k i lt. port_width (get_or p.inputs k i).ty (is.inputs k i lt))

pub dout_widths : (p : Program) → IsProgram p → (ys : List ℕ) → ys ≡ map (λ g. bits_of_type (type_at p g)) p.outputs → All IsPortWidth ys
dout_widths p is ys same = widths_of (λ g. bits_of_type (type_at p g)) p.outputs ys same (λ k g lt. by (get_or p.outputs k g) (is.outputs k g lt))
  where
    by : (g : ℕ) → IsOutput (types_of p) g → IsPortWidth (bits_of_type (type_at p g))
    by g out = subst (λ (t : Ty). IsPortWidth (bits_of_type t)) (sym (entry_or (types_of p) g out.ty (Unsigned 1) out.there)) (port_width out.ty out.port)
