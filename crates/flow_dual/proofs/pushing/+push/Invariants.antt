use Rattle.std.proofs.Common.{slice_index}
use Rattle.flow_dual.proofs.pushing.+push.Given as goal

abbrev pub decreases-push : goal.decreases-push
decreases-push l = slice_index l.paths.now.order.now l.node
