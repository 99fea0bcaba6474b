use Rattle.wiring.specs.Netlist.{netlist_of}
use Rattle.batch_code.specs.Parts.{AreInstructions}
use Rattle.batch_code.proofs.instructions.note_order.Given as goal

abbrev pub invariant-loop-number : goal.invariant-loop-number
invariant-loop-number l = AreInstructions (netlist_of l.wiring) l.code.items l.marks
