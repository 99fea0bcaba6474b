use Rattle.wiring.specs.Netlist.{netlist_of}
use Rattle.array_packing.specs.Packing.{IsRestOf}
use Rattle.array_packing.proofs.joins.is_joined.Given as goal

abbrev pub invariant-loop : goal.invariant-loop
invariant-loop l = IsRestOf (netlist_of l.new) (netlist_of l.old) l.index l.fn.value l.whole
