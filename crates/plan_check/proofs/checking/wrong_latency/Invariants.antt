use Rattle.std.proofs.Common.{◌<◌, ℕ}
use Rattle.plan_check.specs.Holding.{LatencyHolds}
use Rattle.plan_check.proofs.checking.wrong_latency.Given as goal

abbrev pub invariant-loop-k : goal.invariant-loop-k
invariant-loop-k l = (k : ℕ) → k < l.k → LatencyHolds l.system l.images l.latencies k
