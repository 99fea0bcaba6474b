use Rattle.std.proofs.Common.{◌<◌, ℕ, slice_index}
use Rattle.raster_delay.specs.Network.{constraint_at, Holds, IsTight}
use Rattle.flow_dual.proofs.checking.carries.Given as goal

abbrev pub invariant-loop-i : goal.invariant-loop-i
invariant-loop-i l = record {
  holds : (k : ℕ) → k < l.i → Holds l.numbers (constraint_at l.constraints k);
  carries : (k : ℕ) → k < l.i → 0 < slice_index l.flow k → IsTight l.numbers (constraint_at l.constraints k);
}
