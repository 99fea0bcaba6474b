use Rattle.std.proofs.Common.{arith}
use Rattle.dk_base.proofs.Orders.{in_order_by_next}
use Rattle.dk_base.proofs.stencil_rules.are_in_order.Goals as goal

pub returns-clause-yes : goal.returns-clause-yes
returns-clause-yes c = λ _. in_order_by_next c.args.reads.now (λ k d h. c.loop-k.invariant k d (omega arith))
