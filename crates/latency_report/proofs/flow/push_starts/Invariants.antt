use Rattle.std.proofs.Common.{◌≡◌, length, map, drop, ◌++◌}
use Rattle.std.specs.List.{range_with_len}
use Rattle.plan_check.specs.Flows.{carried}
use Rattle.plan_check.specs.Sums.{start_maker}
use Rattle.latency_report.proofs.flow.push_starts.Given as goal

abbrev pub invariant-loop-k : goal.invariant-loop-k
invariant-loop-k l =
    l.lines.items ++ carried (drop l.k (map start_maker (range_with_len l.first (length l.flow)))) (drop l.k l.flow)
    ≡ l.initial.lines.items ++ carried (map start_maker (range_with_len l.first (length l.flow))) l.flow
