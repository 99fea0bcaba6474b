use Rattle.stencil_sets.proofs.Marked.{among_more, among_none, among_all}
use Rattle.stencil_sets.proofs.kept.mark_outputs.Goals as goal

pub loop-output-init : goal.loop-output-init
loop-output-init c = among_none c.args.kept.now c.args.outputs.now

pub loop-output-preserved : goal.loop-output-preserved
loop-output-preserved c = among_more c.args.kept.now c.loop-output.kept c.mark.new.kept c.args.outputs.now c.loop-output.output-index c.loop-output-test.true c.loop-output.invariant c.mark.ensures.more

pub returns : goal.returns
returns c = record { more = among_all c.args.kept.now c.loop-output.kept c.args.outputs.now c.loop-output.output-index c.loop-output-test.false c.loop-output.auto.output-index-end c.loop-output.invariant }
