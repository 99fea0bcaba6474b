use Rattle.std.proofs.Common.{ℕ, ◌≤◌, ◌+◌, List, [], length, take, drop}
use Rattle.netlist.specs.Names.{NamedNetlist}
use Rattle.vcd_trace.specs.Layout.{AreValues}
use Rattle.vcd_trace.specs.Steps.{InClock}
use Rattle.vcd_trace.proofs.steps.read_clock.Given as goal

abbrev pub invariant-loop-place : goal.invariant-loop-place
invariant-loop-place l = record {
  clock : (m : NamedNetlist) (text : List ℕ) (k : ℕ) (done : List (List ℕ)) → InClock m text l.bytes l.number l.before.first k done 0 [] l.before.widths.now l.before.values.now
      → InClock m text l.rest l.line_number l.before.first k done l.place l.values.items (drop l.place l.before.widths.now) (drop l.place l.before.values.now);
  fits : AreValues (take l.place l.before.widths.now) l.values.items;
  count : l.line_number + length l.rest ≤ l.number + length l.bytes;
  shorter : length l.rest ≤ length l.bytes;
}
