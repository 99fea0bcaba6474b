use Rattle.std.proofs.Common.{◌≡◌, ◌≤◌, ◌+◌, ◌++◌, drop, length}
use Rattle.std.specs.Vec.{vec_len, vec_capacity}
use Rattle.vcd_trace.specs.Layout.{changed_lines, text_of}
use Rattle.vcd_trace.proofs.clock.push_changes.Given as goal

abbrev pub invariant-loop-place : goal.invariant-loop-place
invariant-loop-place l = record {
  items : l.to.items ++ text_of (changed_lines l.place (drop l.place l.widths) (drop l.place l.before) (drop l.place l.values)) ≡ l.fn.to.items ++ text_of (changed_lines 0 l.widths l.before l.values);
  room : vec_len l.to + length (text_of (changed_lines l.place (drop l.place l.widths) (drop l.place l.before) (drop l.place l.values))) ≤ vec_capacity l.fn.to;
  capacity : vec_capacity l.to ≡ vec_capacity l.fn.to;
}
