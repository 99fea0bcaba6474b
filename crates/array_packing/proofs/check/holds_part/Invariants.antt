use Rattle.wiring.specs.Netlist.{netlist_of}
use Rattle.array_packing.specs.Packing.{IsInner}
use Rattle.array_packing.proofs.check.holds_part.Given as goal

abbrev pub invariant-loop : goal.invariant-loop
invariant-loop l = IsInner (netlist_of l.m) l.fn.value l.fn.low l.whole l.rest
