use Rattle.std.proofs.Common.{◌≡◌, map, drop, ◌++◌}
use Rattle.plan_check.specs.Flows.{carried}
use Rattle.plan_check.specs.Sums.{keep_maker}
use Rattle.latency_report.proofs.flow.push_keeps.Given as goal

abbrev pub invariant-loop-k : goal.invariant-loop-k
invariant-loop-k l =
    l.lines.items ++ carried (drop l.k (map keep_maker l.reads)) (drop l.k l.flow)
    ≡ l.initial.lines.items ++ carried (map keep_maker l.reads) l.flow
