use Rattle.std.proofs.Common.{refl}
use Rattle.plan_check.specs.Sums.{start_maker}
use Rattle.latency_report.proofs.Loops.{ranged, ranged_done}
use Rattle.latency_report.proofs.flow.push_starts.Goals as goal

pub loop-k-preserved : goal.loop-k-preserved
loop-k-preserved c = ranged start_maker c.args.first c.args.flow.now c.loop-k.k _ _ c.loop-k.lines.items c.push_line.new.lines.items _ c.loop-k-test.true refl refl c.in_ok-push_line.ensures c.loop-k.invariant

pub returns : goal.returns
returns c = ranged_done start_maker c.args.first c.args.flow.now c.loop-k.k c.loop-k.lines.items _ c.loop-k-test.false c.loop-k.invariant
