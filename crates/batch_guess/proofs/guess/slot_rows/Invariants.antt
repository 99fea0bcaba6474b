use Rattle.std.proofs.Common.{◌≡◌, length, replicate}
use Rattle.lane_rows.specs.Values.{values_of, InLanes}
use Rattle.batch_guess.proofs.guess.slot_rows.Given as goal

abbrev pub invariant-loop-slot : goal.invariant-loop-slot
invariant-loop-slot l = record {
  count : length l.rows.items ≡ l.slot;
  values : values_of l.rows.items ≡ replicate l.slot (replicate l.long 0);
  lanes : InLanes l.widths l.rows.items;
}
