use Rattle.std.proofs.Common.{◌≡◌, ◌≤◌, ◌+◌, drop}
use Rattle.vcd_trace.specs.Steps.{common_lines}
use Rattle.vcd_trace.proofs.again.common_lines.Given as goal

abbrev pub invariant-loop-place : goal.invariant-loop-place
invariant-loop-place l = record {
  number : common_lines l.number (drop l.place l.head) (drop l.place l.text) ≡ common_lines 1 l.head l.text;
  few : l.number ≤ l.place + 1;
}
