use Rattle.std.proofs.Common.{map}
use Rattle.std.specs.Prelude.{IsTrue}
use Rattle.batch_sim.specs.Checked.{IsInputRow}
use Rattle.batch_sim.proofs.judge.given.is_given.Given as goal

abbrev pub invariant-loop-t : goal.invariant-loop-t
invariant-loop-t g l = IsTrue l.given → IsInputRow l.has_enable l.ports (record l.piece { count = l.t }) l.input (map g.L.Lane.value l.row)
