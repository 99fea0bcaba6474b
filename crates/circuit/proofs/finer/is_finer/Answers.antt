use Rattle.std.proofs.Common.{sym}
use Rattle.circuit.proofs.Splitting.{ascend_rises}
use Rattle.circuit.proofs.finer.is_finer.Goals as goal

pub has_each-requires : goal.has_each-requires
has_each-requires c = ascend_rises 0 c.args.split.now (sym c.if-not-ascends.ensures)
