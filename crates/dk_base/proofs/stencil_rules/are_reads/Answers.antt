use Rattle.std.proofs.Common.{◌∙◌, sym}
use Rattle.dk_base.specs.Stencils.{IsRead}
use Rattle.dk_base.proofs.Orders.{one_more}
use Rattle.dk_base.proofs.stencil_rules.are_reads.Goals as goal

pub returns-then-not-is_read-clause-no : goal.returns-then-not-is_read-clause-no
returns-then-not-is_read-clause-no c = λ all. sym c.if-not-is_read.true ∙ c.is_read.ensures.no (all c.loop-read.read-index _ c.loop-read-test.true)

pub loop-read-preserved : goal.loop-read-preserved
loop-read-preserved c =
    one_more (IsRead c.args.width c.args.height c.args.inputs c.args.images.now) c.args.reads.now c.loop-read.read-index _ c.loop-read-test.true c.loop-read.invariant (c.is_read.ensures.yes c.if-not-is_read.false)
