use Rattle.std.proofs.Common.{◌≡◌, map, drop, ◌++◌}
use Rattle.buffer_plan.specs.Plans.{delay_of}
use Rattle.latency_report.specs.Printed.{latencies}
use Rattle.latency_report.proofs.images.latencies.Given as goal

abbrev pub invariant-loop-k : goal.invariant-loop-k
invariant-loop-k l = l.delays.items ++ map (delay_of l.plan) (drop l.k l.plan.system.stencils.outputs) ≡ latencies l.plan
