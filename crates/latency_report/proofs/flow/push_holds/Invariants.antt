use Rattle.std.proofs.Common.{◌≡◌, length, map, drop, ◌++◌}
use Rattle.std.specs.List.{range_with_len}
use Rattle.plan_check.specs.Flows.{carried}
use Rattle.plan_check.specs.Sums.{hold_maker}
use Rattle.latency_report.proofs.flow.push_holds.Given as goal

abbrev pub invariant-loop-image : goal.invariant-loop-image
invariant-loop-image l =
    l.lines.items ++ carried (drop l.image (map hold_maker (range_with_len 0 (length l.flow)))) (drop l.image l.flow)
    ≡ l.initial.lines.items ++ carried (map hold_maker (range_with_len 0 (length l.flow))) l.flow
