-- The taps of images: a net for each age, which has the pixel of this many clocks before.
use Rattle.std.specs.Prelude.{◌≡◌, ℕ, ◌+◌, ◌<◌, pos, Bool, IsTrue, List, [], length, slice_get, slice_index_or, Some}
use Rattle.dk_base.specs.declared.stencils.LiveRead.{LiveRead}
use Rattle.dk_base.specs.Stencils.{IsKept}
use Rattle.dk_base.specs.Frames.{Size}
use Rattle.wiring.specs.declared.netlist.Net.{Net}
use Rattle.wiring.specs.declared.netlist.Holder.{Holder}
use Rattle.wiring.specs.Netlist.{Netlist, net_width}
use Rattle.wiring.specs.Snapshot.{Snapshot, net_value}
use Rattle.net_build.specs.Draft.{IsNet}
use Rattle.net_build.specs.Control.{is_control}
use Rattle.pointwise_ir.specs.Programs.{Program, types_of}
use Rattle.pointwise_ir.specs.Stencils.{AreStencilsOf}
use Rattle.buffer_plan.specs.Plans.{Plan, place_in, ages_of, read_age, delay_of, width_of}
use Rattle.circuit.specs.Rounds.{Rounds, pixel_count, pixel_bits}

-- the frame's sides
abbrev pub size_in : Plan → Size
size_in plan = record { width = plan.system.stencils.width; height = plan.system.stencils.height }

-- the image is one of the kept ones
abbrev pub Keeps : Plan → ℕ → Type 0
Keeps plan g = IsKept plan.system.stencils.images g

-- the taps of image g, where each kept image has its own, in order
abbrev pub taps_at : Plan → List (List Net) → ℕ → List Net
taps_at plan taps g = slice_index_or taps (place_in plan g) []

-- the tap of a live read, which is that of its age
pub record IsTapOf (plan : Plan) (taps : List (List Net)) (r : LiveRead) (tap : Net) : Type 0 where
  pub place : ℕ
  pub age : ℕ
  pub is_age : pos age ≡ read_age plan r
  pub aged : slice_get (ages_of plan r.g) place ≡ Some age
  pub there : slice_get (taps_at plan taps r.g) place ≡ Some tap

-- each kept image has a net for each of its ages
abbrev pub HaveTaps : Plan → List (List Net) → Type 0
HaveTaps plan taps = (g : ℕ) → Keeps plan g → (place_in plan g < length taps) × (length (taps_at plan taps g) ≡ length (ages_of plan g))

-- of the first n live reads each tap, in order
pub record AreTapsOf (plan : Plan) (taps : List (List Net)) (n : ℕ) (reads : List Net) : Type 0 where
  pub one_each : length reads ≡ n
  pub each : (k : ℕ) (r : LiveRead) (tap : Net) → slice_get plan.system.stencils.reads k ≡ Some r → slice_get reads k ≡ Some tap → IsTapOf plan taps r tap

-- each kept image before f has a net of its width for each of its ages
pub record HasTaps (b : Netlist) (plan : Plan) (taps : List (List Net)) (f : ℕ) : Type 0 where
  pub there : (g : ℕ) → Keeps plan g → g < f → place_in plan g < length taps
  pub one_each : (g : ℕ) → Keeps plan g → g < f → length (taps_at plan taps g) ≡ length (ages_of plan g)
  pub net : (g : ℕ) → Keeps plan g → g < f → (k : ℕ) (tap : Net) → slice_get (taps_at plan taps g) k ≡ Some tap → IsNet b tap
  pub width : (g : ℕ) → Keeps plan g → g < f → (k : ℕ) (tap : Net) → slice_get (taps_at plan taps g) k ≡ Some tap → net_width b tap ≡ width_of plan g

-- at counted clock t the tap of each age is the pixel of image g that came this many clocks before, where there was one
abbrev pub TapsAreRight : Program → Rounds → Plan → List (List Net) → (t : ℕ) → Snapshot → (g : ℕ) → Type 0
TapsAreRight p rounds plan taps t s g =
    (k age q : ℕ) (tap : Net) → slice_get (ages_of plan g) k ≡ Some age → slice_get (taps_at plan taps g) k ≡ Some tap → q + age + delay_of plan g ≡ t → q < pixel_count p rounds → net_value s tap ≡ pixel_bits p rounds g q

-- the base has rst, en and the registers
abbrev pub HasControl : (enable : Bool) → (Holder → Bool) → Type 0
HasControl enable base = (h : Holder) → IsTrue (is_control enable h) → IsTrue (base h)

-- an image f that is kept, of a plan of the program, where the images before it have their taps
pub record IsReading (b : Netlist) (p : Program) (plan : Plan) (taps : List (List Net)) (f : ℕ) : Type 0 where
  pub stencils : AreStencilsOf p plan.system.stencils
  pub kept : Keeps plan f
  pub there : f < length (types_of p)
  pub taps_are : HasTaps b plan taps f
