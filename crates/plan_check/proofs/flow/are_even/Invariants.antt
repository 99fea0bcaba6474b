use Rattle.std.proofs.Common.{◌≡◌, ◌<◌, ℕ, pos, slice_index}
use Rattle.std.specs.Prelude.{◌-ℤ◌}
use Rattle.raster_delay.specs.Systems.{coefficient_in}
use Rattle.plan_check.proofs.flow.are_even.Given as goal

abbrev pub invariant-loop-node : goal.invariant-loop-node
invariant-loop-node l = (v : ℕ) → v < l.node → pos (slice_index l.brought v) -ℤ pos (slice_index l.taken v) ≡ coefficient_in l.system v
