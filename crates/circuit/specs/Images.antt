-- What is built for the images of a plan, one after another.
use Rattle.std.specs.Prelude.{◌≡◌, ℕ, ◌+◌, ◌*◌, ◌<◌, ◌≤◌, nat_le, nat_lt, max, ◌&&◌, Bool, true, false, not, IsTrue, List, [], length, map, take, slice_get, slice_index_or, unwrap_or, Some, Contains}
use Rattle.std.specs.List.{list_any}
use Rattle.std.specs.Option.{option_map}
use Rattle.dk_base.specs.declared.stencils.Image.{Image}
use Rattle.dk_base.specs.declared.stencils.LiveRead.{LiveRead}
use Rattle.dk_base.specs.Types.{width_of as bits_of_type}
use Rattle.wiring.specs.declared.netlist.Net.{Net}
use Rattle.wiring.specs.declared.netlist.Net.TheVariants.{Input, Output, Wire, Reg}
use Rattle.wiring.specs.declared.netlist.Holder.{Holder}
use Rattle.wiring.specs.declared.netlist.Holder.TheVariants.{OfNet, OfArray}
use Rattle.wiring.specs.declared.netlist.Shape.{Shape}
use Rattle.wiring.specs.Netlist.{Netlist, net_width, din_net}
use Rattle.wiring.specs.BufferBits.{array_bits}
use Rattle.wiring.specs.Snapshot.{Contents, Snapshot, net_value}
use Rattle.wiring.specs.Clock.{Clock}
use Rattle.wiring.specs.History.{counted}
use Rattle.net_build.specs.Includes.{Includes}
use Rattle.net_build.specs.Draft.{IsNet, UpdatedBut, empty_draft}
use Rattle.net_build.specs.Runs.{NeverStops, StillBut}
use Rattle.net_build.specs.Control.{IsMadeOf, IsControlled, is_control}
use Rattle.net_build.specs.Depth.{IsWithin}
use Rattle.net_build.specs.Indices.{read_indices, put_indices}
use Rattle.pointwise_ir.specs.Programs.{Program, IsBody}
use Rattle.pointwise_ir.specs.Trees.{Tree}
use Rattle.datapath.specs.Levels.{logic_levels}
use Rattle.buffer_plan.specs.Plans.{Plan, delay_of, ages_of, width_of, depth_of}
use Rattle.line_buffer.specs.Streams.{IsPixel}
use Rattle.line_buffer.specs.Fills.{AreFilled}
use Rattle.line_buffer.specs.Buffers.{IsBuffer}
use Rattle.line_buffer.specs.Chains.{AreCopies}
use Rattle.circuit.specs.Runs.{IsRunning}
use Rattle.circuit.specs.Rounds.{Rounds, AreRounds, type_at, pixel_count, pixel_bits}
use Rattle.edge_select.specs.declared.frame_tests.FrameTests.{FrameTests}
use Rattle.edge_select.specs.FrameTests.{AreFrameTests, IsApart}
use Rattle.circuit.specs.Taps.{Keeps, size_in, taps_at, IsTapOf, HasControl, TapsAreRight}
use Rattle.circuit.specs.Depths.{ChoosesAmong, IsOverTaps, test_levels}
use Rattle.circuit.specs.Reads.{reads_in, IsMadeOfTaps}
use Rattle.circuit.specs.Forms.{Shapes, Form, shapes_of, first_array, end_array}

-- In each counted clock the net of image f is the pixel scheduled for it, for all rounds whose pixels the taps of the images before it have.
abbrev pub IsBodyNet : Netlist → Program → Plan → List (List Net) → (f : ℕ) → Net → Type 0
IsBodyNet b p plan taps f net =
    (m : Netlist) (from : Contents) (before : List Clock) (c : Clock) (s : Snapshot) → IsRunning b m from before c s → (rounds : Rounds) → AreRounds p rounds → ((g : ℕ) → g < f → Keeps plan g → TapsAreRight p rounds plan taps (length (counted m before)) s g) →
    IsPixel (pixel_bits p rounds f) (pixel_count p rounds) (delay_of plan f) (length (counted m before)) (net_value s net)

-- the net of image f: the din of an input, or the net of a body, which is made of taps
pub record IsImageNet (b old : Netlist) (p : Program) (plan : Plan) (taps : List (List Net)) (f : ℕ) (net : Net) : Type 0 where
  pub there : IsNet b net
  pub width : net_width b net ≡ width_of plan f
  pub input : f < length p.inputs → net ≡ din_net b f
  pub body : length p.inputs ≤ f → IsBodyNet b p plan taps f net
  pub made : length p.inputs ≤ f → IsMadeOfTaps b old plan taps (reads_in plan f) net
  pub levels : (e : Tree) (n : ℕ) → IsBody p f e → ChoosesAmong plan f e n → IsOverTaps b old plan taps (reads_in plan f) (logic_levels e + n) net

-- a number of an array of an image
abbrev pub is_array_of : Shapes → Plan → (g x : ℕ) → Bool
is_array_of shapes plan g x = nat_le (first_array shapes plan g) x && nat_lt x (end_array shapes plan g)

-- the number of words of array x, of the arrays of all kept images
abbrev pub words_in : Shapes → Plan → (x : ℕ) → ℕ
words_in shapes plan x = unwrap_or (option_map (λ (s : Shape). s.depth) (slice_get (shapes_of shapes plan plan.system.stencils.images) x)) 0

-- array x is not long, so any logic may read it
abbrev pub reads_directly : Form → Plan → (x : ℕ) → Bool
reads_directly form plan x = not (form.long (words_in form.shapes plan x))

-- rst, en, the registers, and the arrays of image g that are not long
abbrev pub tap_source_of : Form → Plan → (g : ℕ) → (enable : Bool) → Holder → Bool
tap_source_of form plan g enable (OfNet n) = is_control enable (OfNet n)
tap_source_of form plan g enable (OfArray x) = reads_directly form plan x && is_array_of form.shapes plan g x

-- rst, en, the registers, and the arrays that are not long of the images of which f has a live read
abbrev pub source_of : Form → Plan → (f : ℕ) → (enable : Bool) → Holder → Bool
source_of form plan f enable (OfNet n) = is_control enable (OfNet n)
source_of form plan f enable (OfArray x) = reads_directly form plan x && list_any (λ (r : LiveRead). is_array_of form.shapes plan r.g x) (reads_in plan f)

-- the inputs of the module, the registers, and the arrays that are not long
abbrev pub direct_source : Form → Plan → Holder → Bool
direct_source form plan (OfNet (Input k)) = true
direct_source form plan (OfNet (Output k)) = false
direct_source form plan (OfNet (Wire k)) = false
direct_source form plan (OfNet (Reg k)) = true
direct_source form plan (OfArray x) = reads_directly form plan x

-- The most operators on a path to the net of an image with this body, whose reads choose among at most n taps, from the nets of its live reads: those of the body, a choice for each tap, and a frame test.
abbrev pub body_levels : Tree → (n : ℕ) → ℕ
body_levels e n = logic_levels e + n + test_levels

-- The same from rst, en, registers and arrays, at an age of at least 1: a path begins at a frame test or goes through the index of a tap, and not both.
abbrev pub image_levels : Form → Tree → (n : ℕ) → ℕ
image_levels form e n = logic_levels e + n + max test_levels form.tap_levels

-- the base has the taps of the live reads by image f
abbrev pub HasTapsOf : Plan → List (List Net) → (f : ℕ) → (Holder → Bool) → Type 0
HasTapsOf plan taps f base = (r : LiveRead) (tap : Net) → Contains (reads_in plan f) r → IsTapOf plan taps r tap → IsTrue (base (OfNet tap))

-- The net of image f is made of rst, en, registers and the taps of its live reads, with at most `body_levels` operators on a path: it is made so of each base that has these.
pub record IsOverReads (b : Netlist) (p : Program) (plan : Plan) (taps : List (List Net)) (f : ℕ) (net : Net) : Type 0 where
  pub made : (base : Holder → Bool) → HasControl b.enable base → HasTapsOf plan taps f base → IsMadeOf b base (OfNet net)
  pub levels : (e : Tree) (n : ℕ) → IsBody p f e → ChoosesAmong plan f e n → (base : Holder → Bool) → HasControl b.enable base → HasTapsOf plan taps f base → IsWithin b base (body_levels e n) (OfNet net)

-- What has been built for image g, as the netlist b has it: its net, and its buffer by its taps. No path of assigns leads from a long array to them, except through a register.
pub record IsLine (b : Netlist) (p : Program) (plan : Plan) (form : Form) (copies : List ℕ) (taps : List (List Net)) (g : ℕ) (net : Net) : Type 0 where
  pub there : IsNet b net
  pub width : net_width b net ≡ width_of plan g
  pub input : g < length p.inputs → net ≡ din_net b g
  pub body : length p.inputs ≤ g → IsBodyNet b p plan taps g net
  pub over : length p.inputs ≤ g → IsOverReads b p plan taps g net
  pub apart : 1 ≤ plan.system.age → length p.inputs ≤ g → IsMadeOf b (source_of form plan g b.enable) (OfNet net)
  pub levels : 1 ≤ plan.system.age → (e : Tree) (n : ℕ) → IsBody p g e → ChoosesAmong plan g e n → IsWithin b (source_of form plan g b.enable) (image_levels form e n) (OfNet net)
  pub direct : IsMadeOf b (direct_source form plan) (OfNet net)
  pub buffer : IsBuffer b copies (form.places plan g) (ages_of plan g) (taps_at plan taps g) net
  pub bits : array_bits (form.shapes plan g) ≡ width_of plan g * depth_of plan g
  pub made : (k age : ℕ) (tap : Net) → slice_get (ages_of plan g) k ≡ Some age → 0 < age → slice_get (taps_at plan taps g) k ≡ Some tap → IsWithin b (tap_source_of form plan g b.enable) form.tap_levels (OfNet tap)
  pub fills : AreFilled b (reads_directly form plan) copies (first_array form.shapes plan g) (end_array form.shapes plan g) net
  pub each : (x : ℕ) → first_array form.shapes plan g ≤ x → x < end_array form.shapes plan g → form.property (words_in form.shapes plan x) (read_indices b x) (put_indices b x)

-- a netlist with the ports of a program and nothing else
abbrev pub ports_of : Program → (enable : Bool) → Netlist
ports_of p enable = empty_draft enable (map (λ i. bits_of_type i.ty) p.inputs) (map (λ g. bits_of_type (type_at p g)) p.outputs)

-- The first n of the kept images have their nets and their buffers, and nothing else is there.
pub record AreBuilt (b : Netlist) (p : Program) (plan : Plan) (form : Form) (n : ℕ) (nets : List Net) (taps : List (List Net)) : Type 0 where
  pub ports : Includes b (ports_of p b.enable)
  pub net_count : length nets ≡ n
  pub tap_count : length taps ≡ n
  pub arrays : b.arrays ≡ shapes_of form.shapes plan (take n plan.system.stencils.images)
  pub copies : List ℕ
  pub copied : AreCopies form.long b copies b.arrays
  pub updated : UpdatedBut b []
  pub still : StillBut b copies []
  pub stops : NeverStops b
  pub control : IsControlled b copies
  pub line : (k : ℕ) (i : Image) → k < n → slice_get plan.system.stencils.images k ≡ Some i → IsLine b p plan form copies taps i.number (slice_index_or nets k (Input 0))

-- And the module has these frame tests, whose counters are none of the copies.
pub record AreBuiltWith (b : Netlist) (p : Program) (plan : Plan) (form : Form) (n : ℕ) (nets : List Net) (taps : List (List Net)) (tests : FrameTests) : Type 0 where
  pub built : AreBuilt b p plan form n nets taps
  pub apart : IsApart built.copies tests
  pub tests_are : AreFrameTests b (size_in plan) tests
