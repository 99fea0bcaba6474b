use Rattle.std.proofs.Common.{◌≡◌, ◌++◌, drop}
use Rattle.verilog_layout.specs.Layout.{each_at, output_layout}
use Rattle.verilog_print.proofs.text.push_outputs.Given as goal

abbrev pub invariant-loop-k : goal.invariant-loop-k
invariant-loop-k l = l.out.items ++ each_at output_layout l.k (drop l.k l.widths) ≡ l.fn.out.items ++ each_at output_layout 0 l.widths
