-- A netlist in a simulator.
use Rattle.std.specs.Prelude.{◌≡◌, ℕ, ◌+◌, Bool, List, length, take, drop, map, Result, Err, IfOk, IfErr, OnErr}
use Rattle.wiring.specs.Netlist.{Netlist}
use Rattle.wiring.specs.Snapshot.{Contents, Snapshot, HasOneSnapshot, HasOneNext, HasPlaces, FitsContents, accesses}
use Rattle.wiring.specs.Clock.{Clock, given, Steps, Stops}
use Rattle.wiring.specs.Order.{IsEvaluationOrder}
use Rattle.wiring.specs.Rules.{KeepsRules}
use Rattle.cycle_sim.specs.declared.machine.Program.{Program}
use Rattle.cycle_sim.specs.declared.build.Layout.{Layout}
use Rattle.cycle_sim.specs.declared.edge.IndexRange.{IndexRange}
use Rattle.cycle_sim.specs.declared.ports.Out.{Out}
use Rattle.cycle_sim.specs.Ports.{IsShown}
use Rattle.cycle_sim.specs.Slots.{all_values, all_widths}
use Rattle.cycle_sim.specs.Code.{IsCode}
use Rattle.cycle_sim.specs.Edge.{access, edge}
use Rattle.cycle_sim.specs.Ready.{IsReady, ArraysFit}

-- a netlist, and what its registers and arrays hold
pub record Machine : Type 0 where
  pub netlist : Netlist
  pub contents : Contents

abbrev pub clock : (reset enable : Bool) (dins : List ℕ) → Clock
clock reset enable dins = record { reset = reset; enable = enable; dins = dins }

-- a clock takes a machine on, with this snapshot before its edge
abbrev pub GoesOn : (old : Machine) → Clock → Snapshot → (new : Machine) → Type 0
GoesOn old c s new = Steps old.netlist old.contents (given old.netlist c) s new.contents

-- a clock stops it, with this index of this array as the first that is outside
abbrev pub StopsIn : Machine → Clock → (array index : ℕ) → Type 0
StopsIn old c array index = Stops old.netlist old.contents (given old.netlist c) array index

abbrev pub contents_of : Netlist → List ℕ → List (List ℕ) → Contents
contents_of m values words = record { regs = drop (length m.inputs + length m.outputs + length m.wires) values; arrays = words }

-- a netlist at a moment: the values of its nets, and what its registers and arrays hold
pub record Moment : Type 0 where
  pub netlist : Netlist
  pub shot : Snapshot

abbrev pub shot_of : Netlist → List ℕ → List (List ℕ) → Snapshot
shot_of m values words = record {
  inputs = take (length m.inputs) values;
  outputs = take (length m.outputs) (drop (length m.inputs) values);
  wires = take (length m.wires) (drop (length m.inputs + length m.outputs) values);
  contents = contents_of m values words;
}

-- where the nets of each sort begin
pub record IsLayout (m : Netlist) (l : Layout) : Type 0 where
  pub first_output : l.first_output ≡ length m.inputs
  pub first_wire : l.first_wire ≡ length m.inputs + length m.outputs
  pub first_reg : l.first_reg ≡ length m.inputs + length m.outputs + length m.wires
  pub slots : l.slots ≡ length m.inputs + length m.outputs + length m.wires + length m.regs

-- A netlist that keeps the rules, and where its nets begin.
pub record IsLaidOut (m : Netlist) (l : Layout) : Type 0 where
  -- the nets of each sort begin there
  pub layout : IsLayout m l
  -- it keeps them
  pub rules : KeepsRules m

-- the program is the netlist's
pub record IsProgram (m : Netlist) (order : List ℕ) (p : Program) : Type 0 where
  pub code : IsCode m order p.code.items
  pub widths : p.widths.items ≡ all_widths m
  pub accessing : p.accesses.items ≡ map (access m) (accesses m)
  pub edges : p.edges.items ≡ map (edge m) m.updates
  pub enable : p.enable ≡ m.enable
  pub first_reg : p.first_reg ≡ length m.inputs + length m.outputs + length m.wires

-- the slots, the registers' room and the words are those of a snapshot of the netlist
pub record IsCircuit (m : Netlist) (order : List ℕ) (p : Program) (slots room : List ℕ) (held : List (List ℕ)) : Type 0 where
  pub rules : KeepsRules m
  pub ordered : IsEvaluationOrder m.assigns order
  pub program : IsProgram m order p
  pub staged : length room ≡ length m.regs
  pub shot : Snapshot
  pub slots_are : slots ≡ all_values shot
  pub words : held ≡ shot.contents.arrays
  pub ready : IsReady m shot
  pub fit : ArraysFit m held

-- contents with these registers and words
abbrev pub held_contents : List ℕ → List (List ℕ) → Contents
held_contents regs words = record { regs = regs; arrays = words }

-- A netlist whose clocks are determined from these contents.
pub record IsDetermined (m : Netlist) (h : Contents) : Type 0 where
  -- contents and inputs have one valuation
  pub one_valuation : HasOneSnapshot m
  -- and one next contents
  pub one_next : HasOneNext m
  -- these are of its registers and arrays
  pub places : HasPlaces m h
  -- and fit them
  pub fit : FitsContents m h

-- One clock of a machine, with what an output shows before its edge.
pub record ShowsOutput (old new : Machine) (c : Clock) (output : ℕ) (result : Result Out IndexRange) : Type 0 where
  -- the netlist is the same
  pub netlist : new.netlist ≡ old.netlist
  -- Ok: the clock took place, and this is what the output shows
  pub ok : IfOk result (λ out. (s : Snapshot) × GoesOn old c s new × IsShown s output out)
  -- an index: the clock stops with it
  pub stops : IfErr result (λ r. StopsIn old c r.array r.index)
  -- where it stops, this index is answered and no other
  pub only : (x i : ℕ) → StopsIn old c x i → result ≡ Err (record { array = x; index = i })
  -- an index: the machine is as before
  pub err : OnErr result (new ≡ old)
