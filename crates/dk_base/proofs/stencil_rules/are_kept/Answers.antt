use Rattle.dk_base.specs.Stencils.{IsKept}
use Rattle.dk_base.proofs.Orders.{one_more}
use Rattle.dk_base.proofs.stencil_rules.are_kept.Goals as goal

pub loop-output-preserved : goal.loop-output-preserved
loop-output-preserved c =
    one_more (IsKept c.args.images.now) c.args.outputs.now c.loop-output.output-index 0 c.loop-output-test.true c.loop-output.invariant (c.is_kept.ensures.yes c.if-not-is_kept.false)
