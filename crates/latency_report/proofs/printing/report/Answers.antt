use Rattle.latency_report.proofs.Whole.{whole}
use Rattle.latency_report.proofs.printing.report.Goals as goal

pub returns : goal.returns
returns c =
    whole c.args.ir.now c.args.system.now c.args.solution.now.delays c.args.solution.now.flow c.args.plan.now
    _ _ _ _ _ _ _ _ _ _ _ c.requires.plan c.version.ensures c.age.ensures c.width.ensures c.height.ensures
    c.in_ok-images.ensures c.in_ok-latencies.ensures c.clocks.ensures c.bits.ensures c.reads.ensures c.as_slice.ensures c.in_ok-flow.ensures
