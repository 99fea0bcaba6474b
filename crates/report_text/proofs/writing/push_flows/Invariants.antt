use Rattle.std.proofs.Common.{◌≡◌, ◌++◌, drop, map}
use Rattle.report_text.specs.Layout.{joined, flow_line}
use Rattle.report_text.proofs.writing.push_flows.Given as goal

abbrev pub invariant-loop-line : goal.invariant-loop-line
invariant-loop-line l = l.out.items ++ joined (map (flow_line l.images) (drop l.line-index l.flow)) ≡ l.fn.out.items ++ joined (map (flow_line l.images) l.flow)
