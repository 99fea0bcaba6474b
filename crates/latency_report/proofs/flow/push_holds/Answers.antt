use Rattle.std.proofs.Common.{refl, arith}
use Rattle.plan_check.specs.Sums.{hold_maker}
use Rattle.latency_report.proofs.Loops.{ranged, ranged_done}
use Rattle.latency_report.proofs.flow.push_holds.Goals as goal

pub loop-image-preserved : goal.loop-image-preserved
loop-image-preserved c = ranged hold_maker 0 c.args.flow.now c.loop-image.image c.loop-image.image _ c.loop-image.lines.items c.push_line.new.lines.items _ c.loop-image-test.true (omega arith) refl c.in_ok-push_line.ensures c.loop-image.invariant

pub returns : goal.returns
returns c = ranged_done hold_maker 0 c.args.flow.now c.loop-image.image c.loop-image.lines.items _ c.loop-image-test.false c.loop-image.invariant
