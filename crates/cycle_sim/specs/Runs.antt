-- Runs over lists of clocks, and what they add to the picture of an output.
use Rattle.std.specs.Prelude.{◌≡◌, ℕ, ◌+◌, ◌≤◌, List, ◌++◌, length, map, take, All, Vec, Result, MatchResult}
use Rattle.std.specs.Vec.{vec_capacity, vec_len}
use Rattle.std.specs.declared.alloc.Global.{Global}
use Rattle.wiring.specs.Netlist.{Netlist}
use Rattle.wiring.specs.Snapshot.{Contents, Snapshot, Fit}
use Rattle.wiring.specs.Clock.{Clock}
use Rattle.wiring.specs.Runs.{Runs, RunStops, picture}
use Rattle.cycle_sim.specs.declared.edge.IndexRange.{IndexRange}
use Rattle.cycle_sim.specs.Ports.{din_widths}
use Rattle.cycle_sim.specs.Simulated.{Machine}
use Rattle.cycle_sim.specs.declared.running.Clock.{Clock as GivenClock}
use Rattle.cycle_sim.specs.declared.running.RunFault.{RunFault}
use Rattle.cycle_sim.specs.declared.running.RunFault.TheVariants.{Stopped, OutOfMemory}

abbrev pub clock_of : GivenClock → Clock
clock_of c = record { reset = c.reset; enable = c.enable; dins = c.dins.items }

abbrev pub clocks_of : List GivenClock → List Clock
clocks_of clocks = map clock_of clocks

-- the run goes to the end of the list, and the samples are those before it with its picture after them
pub record Ran (m : Netlist) (output : ℕ) (clocks : List Clock) (from : Contents) (before : List ℕ) (to : Contents) (samples : List ℕ) : Type 0 where
  pub shots : List Snapshot
  pub run : Runs m from clocks shots to
  pub shown : samples ≡ before ++ picture output shots

-- the run stops with this index, and the contents and samples are those after the clocks before
pub record RanToStop (m : Netlist) (output : ℕ) (clocks : List Clock) (from : Contents) (before : List ℕ) (to : Contents) (samples : List ℕ) (array index : ℕ) : Type 0 where
  pub shots : List Snapshot
  pub stop : RunStops m from clocks shots array index
  pub run : Runs m from (take (length shots) clocks) shots to
  pub shown : samples ≡ before ++ picture output shots

-- a run stops, or no clock of it takes place because of out of memory
abbrev pub EndsEarly : Netlist → ℕ → List Clock → Contents → List ℕ → Contents → List ℕ → RunFault → Type 0
EndsEarly m output clocks from before to samples (Stopped range) = RanToStop m output clocks from before to samples range.array range.index
EndsEarly m output clocks from before to samples OutOfMemory = (to ≡ from) × (samples ≡ before)

-- what each clock gives to the dins fits their ports
abbrev pub FitClocks : Netlist → List GivenClock → Type 0
FitClocks m clocks = All (λ (c : GivenClock). Fit (din_widths m) c.dins.items) clocks

-- Clocks that took place, with the samples of an output.
pub record HasRun (m now : Netlist) (output : ℕ) (clocks : List Clock) (from to : Contents) (old new : Vec ℕ Global) (most : ℕ) : Type 0 where
  -- the netlist is the same
  pub netlist : now ≡ m
  -- the samples have what the output showed
  pub ok : Ran m output clocks from old.items to new.items
  -- at most `most` were added
  pub count : vec_len new ≤ vec_len old + most
  -- there is room for as many as before
  pub capacity : vec_capacity new ≡ vec_capacity old

-- Clocks one of which stops, with the samples of an output.
pub record HasRunToStop (m now : Netlist) (output : ℕ) (clocks : List Clock) (from to : Contents) (old new : Vec ℕ Global) (most : ℕ) (range : IndexRange) : Type 0 where
  -- the netlist is the same
  pub netlist : now ≡ m
  -- the samples have what the output showed in the clocks before
  pub stop : RanToStop m output clocks from old.items to new.items range.array range.index
  -- at most `most` were added
  pub count : vec_len new ≤ vec_len old + most
  -- there is room for as many as before
  pub capacity : vec_capacity new ≡ vec_capacity old

-- clocks of a machine: they take place, or one of them stops
abbrev pub RunsClocks : (old new : Machine) → (output : ℕ) → List Clock → (before after : Vec ℕ Global) → (most : ℕ) → Result (Unit {0}) IndexRange → Type 0
RunsClocks old new output clocks before after most result =
    MatchResult result (λ _. HasRun old.netlist new.netlist output clocks old.contents new.contents before after most)
    (HasRunToStop old.netlist new.netlist output clocks old.contents new.contents before after most)
