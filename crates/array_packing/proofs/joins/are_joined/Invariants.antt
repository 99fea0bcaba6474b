use Rattle.std.proofs.Common.{take}
use Rattle.std.specs.Prelude.{All}
use Rattle.wiring.specs.Netlist.{netlist_of}
use Rattle.array_packing.specs.Packing.{PutsJoined}
use Rattle.array_packing.proofs.joins.are_joined.Given as goal

abbrev pub invariant-loop-number : goal.invariant-loop-number
invariant-loop-number l = All (PutsJoined (netlist_of l.new) (netlist_of l.old)) (take l.number l.updates)
