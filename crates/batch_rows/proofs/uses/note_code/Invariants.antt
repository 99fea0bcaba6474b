use Rattle.batch_rows.specs.Uses.{AreFirstUsesOf}
use Rattle.batch_rows.proofs.uses.note_code.Given as goal

abbrev pub invariant-loop-number : goal.invariant-loop-number
invariant-loop-number l = AreFirstUsesOf l.number l.code l.uses
