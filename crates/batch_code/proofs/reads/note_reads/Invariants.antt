use Rattle.wiring.specs.Netlist.{netlist_of}
use Rattle.batch_code.specs.Parts.{AreReads, AreReadWhereMarked}
use Rattle.batch_code.proofs.reads.note_reads.Given as goal

abbrev pub invariant-loop-number : goal.invariant-loop-number
invariant-loop-number l = AreReads (netlist_of l.wiring) l.number l.reads l.marks × AreReadWhereMarked (netlist_of l.wiring) l.marks
