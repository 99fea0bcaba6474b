use Rattle.std.proofs.Common.{◌≡◌, ◌++◌, drop}
use Rattle.vcd_trace.specs.Header.{each_at, input_text}
use Rattle.vcd_trace.proofs.heading.push_inputs.Given as goal

abbrev pub invariant-loop-k : goal.invariant-loop-k
invariant-loop-k l = l.out.items ++ each_at (input_text l.enable) l.k (drop l.k l.widths) ≡ l.fn.out.items ++ each_at (input_text l.enable) 0 l.widths
