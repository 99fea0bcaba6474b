use Rattle.std.proofs.Common.{◌≡◌, ◌<◌, ℕ, length, slice_index}
use Rattle.raster_delay.specs.Systems.{depth}
use Rattle.buffer_plan.proofs.ages.all_depths.Given as goal

abbrev pub invariant-loop-k : goal.invariant-loop-k
invariant-loop-k l = record {
  length : length l.all.items ≡ l.k;
  depths : (k : ℕ) → k < l.k → slice_index l.all.items k ≡ depth l.system l.delays k;
}
