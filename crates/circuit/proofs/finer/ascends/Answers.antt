use Rattle.std.proofs.Common.{◌∙◌, sym, arith}
use Rattle.circuit.proofs.Splitting.{ascend_step, ascend_stop, ascend_end}
use Rattle.circuit.proofs.finer.ascends.Goals as goal

pub loop-age-preserved : goal.loop-age-preserved
loop-age-preserved c = c.loop-age.invariant ∙ ascend_step c.loop-age.low c.args.ages.now c.loop-age.age-index (omega arith) (omega arith)

pub returns-then-age-low : goal.returns-then-age-low
returns-then-age-low c = sym (c.loop-age.invariant ∙ ascend_stop c.loop-age.low c.args.ages.now c.loop-age.age-index (omega arith) (omega arith))

pub returns : goal.returns
returns c = sym (c.loop-age.invariant ∙ ascend_end c.loop-age.low c.args.ages.now c.loop-age.age-index (omega arith))
