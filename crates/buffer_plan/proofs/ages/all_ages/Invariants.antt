use Rattle.std.proofs.Common.{◌≡◌, ◌<◌, ℕ, [], length, slice_index_or}
use Rattle.raster_delay.specs.Systems.{placed_reads}
use Rattle.buffer_plan.specs.Plans.{AreDistinct, ages_in}
use Rattle.buffer_plan.proofs.ages.all_ages.Given as goal

abbrev pub invariant-loop-k : goal.invariant-loop-k
invariant-loop-k l = record {
  length : length l.all.items ≡ l.k;
  ages : (k : ℕ) → k < l.k → AreDistinct (ages_in l.system.stencils.width l.delays k (placed_reads l.system)) (slice_index_or l.all.items k []);
}
