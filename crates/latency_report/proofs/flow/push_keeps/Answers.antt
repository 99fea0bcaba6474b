use Rattle.std.proofs.Common.{get_or, pos, refl}
use Rattle.plan_check.specs.Sums.{keep_maker}
use Rattle.latency_report.proofs.Loops.{listed}
use Rattle.latency_report.proofs.flow.push_keeps.Goals as goal

pub loop-k-preserved : goal.loop-k-preserved
loop-k-preserved c =
    listed keep_maker c.args.reads.now c.args.flow.now c.loop-k.k (record { f = 0; g = 0; dx = pos 0; dy = pos 0 }) (get_or c.args.flow.now c.loop-k.k 0) c.keep_line.result
    c.loop-k.lines.items c.push_line.new.lines.items _ c.loop-k-test.true c.requires refl c.keep_line.ensures c.in_ok-push_line.ensures c.loop-k.invariant
