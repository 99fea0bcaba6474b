use Rattle.std.proofs.Common.{◌≡◌, ◌+◌, drop}
use Rattle.vcd_trace.specs.Told.{lines_room}
use Rattle.vcd_trace.proofs.clock.room_for_lines.Given as goal

abbrev pub invariant-loop-place : goal.invariant-loop-place
invariant-loop-place l = l.room + lines_room l.place (drop l.place l.widths) ≡ lines_room 0 l.widths
