use Rattle.std.proofs.Common.{◌≡◌, ◌<◌, ℕ, slice_index, pos}
use Rattle.std.specs.Prelude.{◌≤ℤ◌, ◌+ℤ◌}
use Rattle.raster_delay.specs.Network.{constraint_at}
use Rattle.flow_dual.proofs.shifting.least_slack.Given as goal

abbrev pub invariant-loop-i : goal.invariant-loop-i
invariant-loop-i l = record {
  positive : 0 < l.least;
  least : (k : ℕ) → k < l.i → 0 < slice_index l.order (constraint_at l.constraints k).source → slice_index l.order (constraint_at l.constraints k).target ≡ 0
      → (pos (slice_index l.numbers (constraint_at l.constraints k).source) +ℤ (constraint_at l.constraints k).cost +ℤ pos l.least) ≤ℤ pos (slice_index l.numbers (constraint_at l.constraints k).target);
}
