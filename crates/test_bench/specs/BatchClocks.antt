-- Used by private functions only.
-- What the clocks of a batch show.
use Rattle.std.specs.Prelude.{◌≡◌, ◌*◌, ◌^◌, ◌<◌, ◌≤◌, ℕ, List, slice_get, Some, ◌+◌, Bool, [], ◌∷◌, ◌++◌, length, map, Option, if◌then◌else◌, Result, OnOk, IfErr}
use Rattle.wiring.specs.Snapshot.{Snapshot, Contents}
use Rattle.cycle_sim.specs.declared.ports.Out.{Out}
use Rattle.cycle_sim.specs.Ports.{AreShown, din_widths}
use Rattle.cycle_sim.specs.Simulated.{Machine}
use Rattle.batch_sim.specs.Called.{batch_clocks, of_clock, MachineRan, FitPorts, output_count as batch_outputs}
use Rattle.std.specs.List.{All}
use Rattle.dk_base.specs.declared.TheConstants.{MAX_PORT_WIDTH}
use Rattle.wiring.specs.Netlist.{Netlist}
use Rattle.wiring.specs.Clock.{Clock}
use Rattle.wiring.specs.Runs.{Runs, RunStops}
use Rattle.test_bench.specs.declared.batch.TheConstants.{BATCH_PIXELS}
use Rattle.test_bench.specs.declared.batch.Batch.{Batch}
use Rattle.test_bench.specs.declared.picture.Shown.{Shown}
use Rattle.batch_sim.specs.declared.batches.Stop.{Stop as BatchStop}
use Rattle.stimulus.specs.Showing.{notes_of}
use Rattle.test_bench.specs.Clocking.{AreKept, DoutsFit, GoOn, HaveRoomFor, IsKept}

-- the outputs of each clock show its snapshot; those of a clock follow those of the clock before
abbrev pub AreShownIn : (outputs : ℕ) → List Snapshot → List Out → Type 0
AreShownIn outputs shots outs = (k : ℕ) (s : Snapshot) → slice_get shots k ≡ Some s → AreShown s (of_clock outputs k outs)

-- what an output adds to its picture
abbrev pub sample_of : Out → List ℕ
sample_of out = if out.valid then out.dout ∷ [] else []

-- a picture has more samples at its end
abbrev pub Extends : ℕ → (old new : Shown) → List ℕ → Type 0
Extends most old new samples = (whole : List ℕ) → IsKept most whole old → IsKept most (whole ++ samples) new

-- the pair of each output
abbrev pub pairs_of : List Out → List (Bool × ℕ)
pairs_of outs = map (λ out. (out.valid, out.dout)) outs

-- The module goes through the clocks of a batch, the pictures have what is shown in them, and the notes go on.
pub record ShowsBatch (m : Netlist) (clocks : List Clock) (from to : Contents) (most : ℕ) (old new : List Shown) (before now : Option (List (Bool × ℕ))) : Type 0 where
  pub shots : List Snapshot
  pub runs : Runs m from clocks shots to
  pub kept : (all : List Snapshot) → AreKept most all old → AreKept most (all ++ shots) new
  pub fit : All (DoutsFit m) shots
  pub told : GoOn before (notes_of m shots) now

-- the first clocks of a batch took place, and the next one stops
pub record StopsBatch (m : Netlist) (clocks : List Clock) (from : Contents) (stop : BatchStop) : Type 0 where
  pub shots : List Snapshot
  pub done : length shots ≡ stop.done
  pub stops : RunStops m from clocks shots stop.range.array stop.range.index

-- the clocks of a batch
abbrev pub clocks_of : Netlist → Batch → List Clock
clocks_of m batch = batch_clocks m batch.enables.items batch.dins.items

-- The clocks of a batch fit the module, and there are no more than there is room for.
pub record HasClocks (m : Netlist) (batch : Batch) : Type 0 where
  pub fit : FitPorts m (clocks_of m batch)
  pub whole : length batch.dins.items ≡ length batch.enables.items * length (din_widths m)
  pub few : length batch.enables.items ≤ 2 * BATCH_PIXELS

-- The clocks of a batch are as they were, and there is room for as many.
pub record KeepsClocks (old new : Batch) : Type 0 where
  pub enables : new.enables ≡ old.enables
  pub dins : new.dins ≡ old.dins
  pub outs : length new.outs.items ≡ length old.outs.items

-- Clocks can be made in one call, in which the outputs show what is in the first places.
pub record CanStepFront (m : Netlist) (enables : List Bool) (numbers : List ℕ) (outs : List Out) (first : ℕ) : Type 0 where
  -- the dins of each clock fit their ports
  pub fit : FitPorts m (batch_clocks m enables numbers)
  -- each clock has all dins
  pub all : length numbers ≡ length enables * length (din_widths m)
  -- and a place for each output
  pub places : first ≡ length enables * batch_outputs m
  -- there are so many places
  pub room : first ≤ length outs

-- what each output shows in a clock is added to its picture
abbrev pub AddsShown : (most : ℕ) → (old new : List Shown) → List Out → Type 0
AddsShown most old new outs = (k : ℕ) (a b : Shown) (out : Out) → slice_get old k ≡ Some a → slice_get new k ≡ Some b
    → slice_get outs k ≡ Some out → Extends most a b (sample_of out)

-- all douts fit the widest port
abbrev pub DoutsAreSmall : List Out → Type 0
DoutsAreSmall outs = All (λ (out : Out). out.dout < 2 ^ MAX_PORT_WIDTH) outs

-- Pictures to which outputs of clocks were added.
pub record ArePictures (most number : ℕ) (pictures : List Shown) : Type 0 where
  -- there are `number` of them
  pub count : length pictures ≡ number
  -- each has room for its samples
  pub room : HaveRoomFor most pictures

-- Clocks that were made in one call, with what the outputs show in them.
pub record StepsBatch (old new : Machine) (clocks : List Clock) (shown : List Out) (result : Result (Unit {0}) BatchStop) : Type 0 where
  -- the netlist is the same
  pub netlist : new.netlist ≡ old.netlist
  -- Ok: they took place, and the outputs show this
  pub ok : OnOk result (MachineRan old new clocks shown)
  -- Stop: the clocks before it took place
  pub stop : IfErr result (StopsBatch old.netlist clocks old.contents)
