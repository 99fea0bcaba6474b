use Rattle.plan_check.proofs.Order.{AreSorted-placed}
use Rattle.plan_check.proofs.lines.order_law.Goals as goal

pub returns : goal.returns
returns c = AreSorted-placed c.args.system.now c.law.ensures
