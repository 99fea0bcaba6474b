use Rattle.std.proofs.Common.{sym, subst}
use Rattle.plan_check.specs.Orders.{AreSorted}
use Rattle.plan_check.proofs.lines.has_constraint.Goals as goal

pub is_read-requires : goal.is_read-requires
is_read-requires c = subst AreSorted (sym c.placed_reads-reads.ensures) c.order_law.ensures

pub is_read-requires-in-Keep : goal.is_read-requires-in-Keep
is_read-requires-in-Keep c = subst AreSorted (sym c.placed_reads-reads.ensures) c.order_law.ensures
