use Rattle.std.proofs.Common.{rules}
use Rattle.module_pass.proofs.MadeNames.{one_name_more}
use Rattle.module_pass.proofs.naming.are_made.Goals as goal

pub loop-k-preserved : goal.loop-k-preserved
loop-k-preserved c = one_name_more c.args.letter.now c.args.names.now c.loop-k.k c.loop-k-test.true c.loop-k.invariant (c.in_ok-is_made_at.ensures (search rules))
