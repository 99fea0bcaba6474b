use Rattle.std.proofs.Common.{◌≡◌, ◌++◌, drop, map}
use Rattle.report_text.specs.Layout.{joined, latency_line}
use Rattle.report_text.proofs.writing.push_latencies.Given as goal

abbrev pub invariant-loop-latency : goal.invariant-loop-latency
invariant-loop-latency l = l.out.items ++ joined (map latency_line (drop l.latency-index l.latencies)) ≡ l.fn.out.items ++ joined (map latency_line l.latencies)
