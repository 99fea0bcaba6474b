use Rattle.std.proofs.Common.{◌≡◌, ◌++◌}
use Rattle.net_lines.specs.Lines.{lines_to, read_line}
use Rattle.net_lines.proofs.lines.push_reads.Given as goal

abbrev pub invariant-loop-k : goal.invariant-loop-k
invariant-loop-k l = l.out.items ≡ l.fn.out.items ++ lines_to (read_line l.nets.ir.now l.nets.plan.now l.nets.module.now l.nets.reads.now) l.k
