use Rattle.wiring.specs.Netlist.{netlist_of}
use Rattle.batch_code.specs.Parts.{AreNexts}
use Rattle.batch_code.proofs.updates.nexts_of.Given as goal

abbrev pub invariant-loop-number : goal.invariant-loop-number
invariant-loop-number l = AreNexts (netlist_of l.wiring) l.number l.nexts.items
