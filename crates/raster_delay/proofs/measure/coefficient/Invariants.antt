use Rattle.std.proofs.Common.{◌≡◌, ◌*◌, pos, take}
use Rattle.std.specs.Prelude.{◌+ℤ◌, ◌≤ℤ◌, neg_ℤ, length}
use Rattle.raster_delay.specs.Network.{amount_at, begins, ends}
use Rattle.raster_delay.specs.Delays.{buffers_of}
use Rattle.raster_delay.specs.Placing.{widths_of}
use Rattle.raster_delay.proofs.measure.coefficient.Given as goal

abbrev pub invariant-loop-k : goal.invariant-loop-k
invariant-loop-k l = record {
  sum : l.sum +ℤ pos (amount_at (take l.k (begins (buffers_of l.inputs (length l.images) (widths_of l.images)))) l.node)
      ≡ pos (amount_at (take l.k (ends (buffers_of l.inputs (length l.images) (widths_of l.images)))) l.node);
  low : neg_ℤ (pos (l.k * 255)) ≤ℤ l.sum;
  high : l.sum ≤ℤ pos (l.k * 255);
}
