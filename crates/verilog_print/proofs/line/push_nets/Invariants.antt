use Rattle.std.proofs.Common.{◌≡◌, ◌++◌, drop}
use Rattle.verilog_layout.specs.Layout.{each_at, net_line}
use Rattle.verilog_print.proofs.line.push_nets.Given as goal

abbrev pub invariant-loop-k : goal.invariant-loop-k
invariant-loop-k l = l.out.items ++ each_at (net_line l.word l.names) l.k (drop l.k l.widths) ≡ l.fn.out.items ++ each_at (net_line l.word l.names) 0 l.widths
