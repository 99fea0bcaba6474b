-- What a call for a batch of clocks is given and gives.
use Rattle.std.specs.Prelude.{◌≡◌, ℕ, ◌*◌, ◌/◌, Bool, false, List, [], ◌∷◌, length, take, drop, slice_get, Some, Result, Err, All}
use Rattle.wiring.specs.Netlist.{Netlist}
use Rattle.wiring.specs.Snapshot.{Contents, Snapshot, Fit}
use Rattle.wiring.specs.Clock.{Clock}
use Rattle.wiring.specs.Runs.{Runs, RunStops}
use Rattle.cycle_sim.specs.declared.ports.Out.{Out}
use Rattle.cycle_sim.specs.Ports.{din_widths, AreShown}
use Rattle.cycle_sim.specs.Simulated.{Machine}
use Rattle.batch_sim.specs.declared.batches.Stop.{Stop}

-- the number of dins, and of outputs, each of a valid and a dout
abbrev pub din_count : Netlist → ℕ
din_count m = length (din_widths m)

abbrev pub output_count : Netlist → ℕ
output_count m = length m.outputs / 2

-- those of the k-th clock, where each clock has this many, after those of the clock before
abbrev pub of_clock : {X : Type 0} → (count k : ℕ) → List X → List X
of_clock count k xs = take count (drop (k * count) xs)

-- clocks that are no reset, from the port en of each and the dins of all
abbrev pub clocks_with : (dins : ℕ) → List Bool → List ℕ → List Clock
clocks_with count [] dins = []
clocks_with count (enable ∷ enables) dins = record { reset = false; enable = enable; dins = take count dins } ∷ clocks_with count enables (drop count dins)

abbrev pub batch_clocks : Netlist → List Bool → List ℕ → List Clock
batch_clocks m enables dins = clocks_with (din_count m) enables dins

-- this many clocks of a batch, from one on
abbrev pub piece_of : Netlist → List Bool → List ℕ → ℕ → ℕ → List Clock
piece_of m enables dins first count = take count (drop first (batch_clocks m enables dins))

-- the outputs of each of these clocks are in its place
abbrev pub AllShown : Netlist → List Snapshot → List Out → Type 0
AllShown m shots outs = (k : ℕ) (s : Snapshot) → slice_get shots k ≡ Some s → AreShown s (of_clock (output_count m) k outs)

-- this many of the clocks took place, and the later outputs are as they were
pub record Came (m : Netlist) (clocks : List Clock) (from to : Contents) (old outs : List Out) (k : ℕ) : Type 0 where
  pub shots : List Snapshot
  pub count : length shots ≡ k
  pub run : Runs m from (take k clocks) shots to
  pub shown : AllShown m shots outs
  pub later : drop (k * output_count m) outs ≡ drop (k * output_count m) old

-- all clocks took place
pub record BatchRan (m : Netlist) (clocks : List Clock) (from to : Contents) (outs : List Out) : Type 0 where
  pub shots : List Snapshot
  pub run : Runs m from clocks shots to
  pub shown : AllShown m shots outs

-- this many clocks took place, and the next one stops; the places of the later outputs are as they were
pub record BatchStops (m : Netlist) (clocks : List Clock) (from to : Contents) (old outs : List Out) (stop : Stop) : Type 0 where
  pub shots : List Snapshot
  pub done : length shots ≡ stop.done
  pub stops : RunStops m from clocks shots stop.range.array stop.range.index
  pub run : Runs m from (take stop.done clocks) shots to
  pub shown : AllShown m shots outs
  pub later : drop (stop.done * output_count m) outs ≡ drop (stop.done * output_count m) old

-- where the run over these clocks stops, the result is that stop and no other
abbrev pub IsStopOfRun : Netlist → List Clock → Contents → Result (Unit {0}) Stop → Type 0
IsStopOfRun m clocks from result = (shots : List Snapshot) (x i : ℕ) →
    RunStops m from clocks shots x i → result ≡ Err (record { done = length shots; range = record { array = x; index = i } })

-- the dins of each clock fit their ports
abbrev pub FitPorts : Netlist → List Clock → Type 0
FitPorts m clocks = All (λ (c : Clock). Fit (din_widths m) c.dins) clocks

-- the clocks of a batch of a machine
abbrev pub clocks_for : Machine → List Bool → List ℕ → List Clock
clocks_for s enables dins = batch_clocks s.netlist enables dins

-- a machine made all of the clocks
abbrev pub MachineRan : (old new : Machine) → List Clock → List Out → Type 0
MachineRan old new clocks outs = BatchRan old.netlist clocks old.contents new.contents outs

-- a machine made the clocks up to a stop
abbrev pub MachineStops : (old new : Machine) → List Clock → (before after : List Out) → Stop → Type 0
MachineStops old new clocks before after stop = BatchStops old.netlist clocks old.contents new.contents before after stop
