use Rattle.std.proofs.Common.{◌≡◌, ◌<◌, ℕ, pos, slice_index}
use Rattle.std.specs.Prelude.{◌-ℤ◌}
use Rattle.raster_delay.specs.Systems.{coefficient_in}
use Rattle.flow_dual.proofs.checking.are_balanced.Given as goal

abbrev pub invariant-loop-v : goal.invariant-loop-v
invariant-loop-v l = (k : ℕ) → k < l.v → pos (slice_index l.inflows k) -ℤ pos (slice_index l.outflows k) ≡ coefficient_in l.system k
