use Rattle.std.proofs.Common.{arith}
use Rattle.dk_base.proofs.Orders.{ascends_by_next}
use Rattle.dk_base.proofs.stencil_rules.ascends.Goals as goal

pub returns-clause-yes : goal.returns-clause-yes
returns-clause-yes c = λ _. ascends_by_next c.args.images.now (λ k d h. c.loop-k.invariant k d (omega arith))
