use Rattle.wiring.specs.Netlist.{netlist_of}
use Rattle.array_packing.specs.Packing.{HaveSlotsTo}
use Rattle.array_packing.proofs.nets.are_slots.Given as goal

abbrev pub invariant-loop-x : goal.invariant-loop-x
invariant-loop-x l = HaveSlotsTo (netlist_of l.m) l.slots l.arrays l.x
