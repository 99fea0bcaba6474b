use Rattle.stencil_sets.proofs.Marked.{below_more, below_none, below_all}
use Rattle.stencil_sets.proofs.kept.mark_inputs.Goals as goal

pub loop-g-init : goal.loop-g-init
loop-g-init c = below_none c.args.kept.now

pub loop-g-preserved : goal.loop-g-preserved
loop-g-preserved c = below_more c.args.kept.now c.loop-g.kept c.mark.new.kept c.loop-g.g c.loop-g.invariant c.mark.ensures.more

pub returns : goal.returns
returns c = record { more = below_all c.args.kept.now c.loop-g.kept c.loop-g.g c.args.inputs c.loop-g-test.false c.loop-g.auto.g-end c.loop-g.invariant }
