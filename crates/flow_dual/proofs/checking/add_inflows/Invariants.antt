use Rattle.std.proofs.Common.{◌≡◌, ◌≤◌, ◌*◌, ◌^◌, ℕ, slice_index, take}
use Rattle.raster_delay.specs.Network.{amount_at, brought}
use Rattle.flow_dual.proofs.checking.add_inflows.Given as goal

abbrev pub invariant-loop-i : goal.invariant-loop-i
invariant-loop-i l = record {
  value : (v : ℕ) → slice_index l.inflows v ≡ amount_at (take l.i (brought l.constraints l.flow)) v;
  near : (v : ℕ) → slice_index l.inflows v ≤ l.i * 2 ^ 32;
}
