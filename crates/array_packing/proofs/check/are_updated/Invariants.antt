use Rattle.std.proofs.Common.{take}
use Rattle.std.specs.Prelude.{All}
use Rattle.wiring.specs.Netlist.{netlist_of}
use Rattle.array_packing.specs.Packing.{IsUpdated}
use Rattle.array_packing.proofs.check.are_updated.Given as goal

abbrev pub invariant-loop-number : goal.invariant-loop-number
invariant-loop-number l = All (IsUpdated (netlist_of l.m) l.slots) (take l.number l.updates)
