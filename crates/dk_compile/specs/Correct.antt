-- The theorem of the compiler on one page: a text that it writes of a program denotes one module, which has the program's ports and shows its pictures, and whose arrays have the fewest bits of all causal schedules.
use Rattle.std.specs.Prelude.{◌≡◌, ℕ, ◌+◌, ◌*◌, ◌<◌, ◌≤◌, ◌==◌, nat_lt, pos, Bool, if◌then◌else◌, List, [], ◌∷◌, ◌++◌, length, map, slice_get, slice_index, slice_index_or, Option, None, Some, All, IsTrue}
use Rattle.dk_base.specs.declared.ty.Ty.{Ty}
use Rattle.dk_base.specs.declared.ty.Ty.TheVariants.{Unsigned}
use Rattle.dk_base.specs.Types.{width_of}
use Rattle.dk_base.specs.Frames.{Picture, area, picture_at, pixel_of}
use Rattle.dk_types.specs.Typed.{Typing, input_types, types_of}
use Rattle.wiring.specs.Netlist.{Netlist, valid_net, dout_net}
use Rattle.wiring.specs.Rules.{with_valids}
use Rattle.wiring.specs.BufferBits.{array_bits, IsBufferBits}
use Rattle.wiring.specs.Snapshot.{Contents, Snapshot, Fit, FitsContents, IsNext, net_value}
use Rattle.wiring.specs.Clock.{Clock}
use Rattle.wiring.specs.History.{was_reset, is_held}
use Rattle.wiring.specs.Runs.{Runs, RunStops}
use Rattle.netlist.specs.Names.{NamedNetlist, clock_name, names_after_clock, output_names, port_names}
use Rattle.net_build.specs.Runs.{IsClockOf}
use Rattle.pointwise_ir.specs.Programs.{Program}
use Rattle.raster_delay.specs.Systems.{IsCausal, bits}
use Rattle.flow_dual.specs.Solutions.{IsLeastVector}
use Rattle.buffer_plan.specs.Plans.{Plan, latency_of}
use Rattle.circuit.specs.Driven.{driven}
use Rattle.verilog_text.specs.Stands.{StandsFor}
use Rattle.same_phases.specs.Phases.{IsRound, output_picture}
use Rattle.dk_compile.specs.Limits.{HasSystem, IsAcceptedAt}
use Rattle.dk_compile.specs.Packed.{ahead_bits}

-- The inputs' frames, one after another, each with a picture for each input.
abbrev pub Frames : Type 0
Frames = List (List Picture)

-- the pictures of frame f, one for each input
abbrev pub frame_at : Frames → ℕ → List Picture
frame_at frames f = slice_index_or frames f []

-- the number at din k in clock q after the reset is pixel q of input k, as far as both go
abbrev pub Carries : Typing → Frames → (dins : List (List ℕ)) → Type 0
Carries p frames dins =
    (k q : ℕ) → k < length p.inputs → q < length dins → q < length frames * area p.size
    → pos (slice_index (slice_index_or dins q []) k) ≡ pixel_of p.size (λ f. picture_at (frame_at frames f) k) q

-- the numbers at the dins fit the inputs' types
abbrev pub FitInputs : Typing → (dins : List (List ℕ)) → Type 0
FitInputs p dins = All (Fit (map width_of (input_types p.inputs))) dins

-- the type of image g
abbrev pub type_of_image : Typing → ℕ → Ty
type_of_image p g = slice_index_or (types_of p) g (Unsigned 1)

-- The module's ports, in order: `clk`, `rst`, with `enable` then `en`, a `din` for each input, and for each output its `valid` and its `dout`. A `din` and a `dout` have the width of their image's type, and all others one bit.
pub record HasProgramPorts (m : Netlist) (p : Typing) (enable : Bool) : Type 0 where
  pub enable_is : m.enable ≡ enable
  pub names : port_names m ≡ (clock_name ∷ names_after_clock enable (length p.inputs)) ++ output_names 0 (length p.outputs)
  pub inputs : m.inputs ≡ 1 ∷ (if enable then 1 ∷ map width_of (input_types p.inputs) else map width_of (input_types p.inputs))
  pub outputs : m.outputs ≡ with_valids (map (λ g. width_of (type_of_image p g)) p.outputs)

-- In each clock with `en` 0 after a reset, each `valid` is 0, and no register and no array changes.
pub record StandsStill (m : Netlist) (p : Typing) : Type 0 where
  pub valid : (from : Contents) (before : List Clock) (c : Clock) (s : Snapshot) → IsClockOf m m from before c s → IsTrue (was_reset before) → IsTrue (is_held m c)
      → (k : ℕ) → k < length p.outputs → net_value s (valid_net k) ≡ 0
  pub state : (from : Contents) (before : List Clock) (c : Clock) (s : Snapshot) → IsClockOf m m from before c s → IsTrue (was_reset before) → IsTrue (is_held m c)
      → (next : Contents) → IsNext m s next → next ≡ s.contents

-- A run from any contents, over a reset clock and then a clock for each list of numbers at the dins; `snapshots` has the nets' values in each clock.
pub record IsDriven (m : Netlist) (p : Typing) (dins : List (List ℕ)) (snapshots : List Snapshot) : Type 0 where
  pub from : Contents
  pub to : Contents
  pub contents : FitsContents m from
  pub numbers : FitInputs p dins
  pub run : Runs m from (driven (length p.inputs) dins) snapshots to

-- There is such a run from any contents, and no clock of one stops. Output k has `valid` 1 from its latency on, and not before. Its `dout` is then the program's picture of the frames that come in, pixel after pixel and frame after frame.
pub record ShowsPictures (m : Netlist) (p : Typing) (latency : ℕ → ℕ) : Type 0 where
  pub runs : (from : Contents) (dins : List (List ℕ)) → FitsContents m from → FitInputs p dins → (snapshots : List Snapshot) × (to : Contents) × Runs m from (driven (length p.inputs) dins) snapshots to
  pub goes_on : (from : Contents) (dins : List (List ℕ)) (snapshots : List Snapshot) (array index : ℕ) → FitsContents m from → FitInputs p dins
      → RunStops m from (driven (length p.inputs) dins) snapshots array index → ⊥
  pub valid : (dins : List (List ℕ)) (snapshots : List Snapshot) → IsDriven m p dins snapshots
      → (k c : ℕ) (s : Snapshot) → k < length p.outputs → slice_get snapshots c ≡ Some s → (net_value s (valid_net k) == 1) ≡ nat_lt (latency k) c
  pub dout : (dins : List (List ℕ)) (snapshots : List Snapshot) → IsDriven m p dins snapshots → (frames : Frames) → All (IsRound p) frames → Carries p frames dins
      → (k q : ℕ) (s : Snapshot) → k < length p.outputs → slice_get snapshots (q + latency k + 1) ≡ Some s → q < length frames * area p.size
      → pos (net_value s (dout_net k)) ≡ pixel_of p.size (λ f. output_picture p (frame_at frames f) k) q

-- The Verilog text is right for the program that the source denotes, at this age, with the port `en` or without it, and with block memories or without them.
pub record IsCorrect (source : List ℕ) (age : ℕ) (enable : Bool) (block : Option ℕ) (verilog : List ℕ) : Type 0 where
  pub program : Typing
  pub accepted : IsAcceptedAt source age program
  -- it denotes one module
  pub «module» : NamedNetlist
  pub denotes : StandsFor verilog «module»
  pub only : (other : NamedNetlist) → StandsFor verilog other → other ≡ «module»
  -- which has the program's ports
  pub ports : HasProgramPorts «module».netlist program enable
  -- which shows the program's pictures, each output from its delay in this plan on
  pub plan : Plan
  pub shows : ShowsPictures «module».netlist program (latency_of plan)
  -- and stands still where `en` is 0
  pub still : StandsStill «module».netlist program
  -- the plan is the program's, and its delays are the smallest among the causal ones of least bits
  pub form : Program
  pub has : HasSystem source age program form plan.system
  pub vector : IsLeastVector plan.system plan.delays
  -- the module's arrays have the fewest bits of all causal schedules of the program's images
  pub least : (delays : List ℕ) → IsCausal plan.system delays → array_bits «module».netlist.arrays ≤ bits plan.system delays
  -- and without `block` these are all its buffer bits: no register takes in what came in
  pub all : block ≡ None → IsBufferBits «module».netlist (array_bits «module».netlist.arrays)
  -- with it, such registers have at most the bits of one word of each array of at least `block` words
  pub ahead : (k : ℕ) → IsBufferBits «module».netlist k → k ≤ array_bits «module».netlist.arrays + ahead_bits block «module».netlist.arrays
