use Rattle.wiring.specs.Netlist.{netlist_of}
use Rattle.wiring.specs.Marks.{Spreads}
use Rattle.wiring.proofs.buffer.spread.Given as goal

abbrev pub invariant-loop-number : goal.invariant-loop-number
invariant-loop-number l = Spreads (netlist_of l.wiring) l.fn.marks l.marks
