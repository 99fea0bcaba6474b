use Rattle.std.proofs.Common.{◌≡◌, map, drop, ◌++◌}
use Rattle.std.specs.List.{enumerate_from}
use Rattle.latency_report.specs.Printed.{line_of, image_lines}
use Rattle.latency_report.proofs.images.image_lines.Given as goal

abbrev pub invariant-loop-k : goal.invariant-loop-k
invariant-loop-k l =
    l.lines.items ++ map (line_of l.ir (record { system = l.system; delays = l.solution.delays })) (drop l.k (enumerate_from 0 l.system.stencils.images))
    ≡ image_lines l.ir (record { system = l.system; delays = l.solution.delays })
