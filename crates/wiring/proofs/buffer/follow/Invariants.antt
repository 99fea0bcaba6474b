use Rattle.wiring.specs.Netlist.{netlist_of}
use Rattle.wiring.specs.Marks.{Spreads}
use Rattle.wiring.proofs.buffer.follow.Given as goal

abbrev pub invariant-loop : goal.invariant-loop
invariant-loop l = Spreads (netlist_of l.wiring) l.fn.marks l.marks
