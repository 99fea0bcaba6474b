-- The contents of registers and arrays, outside of a simulator.
use Rattle.std.specs.Prelude.{◌≡◌, ℕ, List, Result, OnOk, IfErr, OnErr}
use Rattle.wiring.specs.Netlist.{Netlist}
use Rattle.wiring.specs.Snapshot.{Contents, Snapshot, FitsContents}
use Rattle.cycle_sim.specs.Slots.{words_of}
use Rattle.wiring.specs.Clock.{Clock}
use Rattle.cycle_sim.specs.declared.edge.IndexRange.{IndexRange}
use Rattle.cycle_sim.specs.declared.ports.Out.{Out}
use Rattle.cycle_sim.specs.Ports.{AreShown}
use Rattle.cycle_sim.specs.Simulated.{Machine, GoesOn, StopsIn, held_contents}
use Rattle.batch_guess.specs.declared.stored.Stored.{Stored}

abbrev pub contents_in : Stored → Contents
contents_in s = held_contents s.regs.items (words_of s.arrays.items)

-- a netlist with its contents
abbrev pub machine_in : Netlist → Stored → Machine
machine_in m s = record { netlist = m; contents = contents_in s }

-- a clock takes the contents on, and the outputs show it
abbrev pub StoredGoesOn : Netlist → (old new : Stored) → Clock → List Out → Type 0
StoredGoesOn m old new c outs = (s : Snapshot) × GoesOn (machine_in m old) c s (machine_in m new) × AreShown s outs

-- a clock stops, with this index of this array
abbrev pub StoredStops : Netlist → Stored → Clock → (array index : ℕ) → Type 0
StoredStops m s c array index = StopsIn (machine_in m s) c array index

-- One clock of a netlist from stored contents.
pub record StepsStored (m now : Netlist) (old new : Stored) (c : Clock) (before after : List Out) (result : Result (Unit {0}) IndexRange) : Type 0 where
  -- the netlist is the same
  pub netlist : now ≡ m
  -- the contents fit it
  pub fits : FitsContents m (contents_in new)
  -- Ok: the clock took place, and the outputs show it
  pub ok : OnOk result (StoredGoesOn m old new c after)
  -- an index: the clock stops with it
  pub stops : IfErr result (λ r. StoredStops m old c r.array r.index)
  -- an index: the contents are as before
  pub err : OnErr result (contents_in new ≡ contents_in old)
  -- and so are the outputs
  pub outs : OnErr result (after ≡ before)
