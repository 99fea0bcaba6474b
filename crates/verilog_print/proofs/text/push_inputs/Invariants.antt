use Rattle.std.proofs.Common.{◌≡◌, ◌++◌, drop}
use Rattle.verilog_layout.specs.Layout.{each_at, input_layout}
use Rattle.verilog_print.proofs.text.push_inputs.Given as goal

abbrev pub invariant-loop-k : goal.invariant-loop-k
invariant-loop-k l = l.out.items ++ each_at (input_layout l.enable) l.k (drop l.k l.widths) ≡ l.fn.out.items ++ each_at (input_layout l.enable) 0 l.widths
