use Rattle.std.proofs.Common.{◌≡◌, ◌++◌, drop}
use Rattle.verilog_layout.specs.Layout.{each_at, array_line}
use Rattle.verilog_print.proofs.line.push_arrays.Given as goal

abbrev pub invariant-loop-k : goal.invariant-loop-k
invariant-loop-k l = l.out.items ++ each_at (array_line l.names) l.k (drop l.k l.shapes) ≡ l.fn.out.items ++ each_at (array_line l.names) 0 l.shapes
