use Rattle.std.proofs.Common.{◌≡◌, ◌<◌, ◌≤◌, ◌-◌, ℕ, length}
use Rattle.std.specs.Prelude.{slice_index_or}
use Rattle.raster_delay.specs.declared.placed.PlacedRead.{PlacedRead}
use Rattle.plan_check.proofs.lines.is_read.Given as goal

abbrev pub invariant-loop-low : goal.invariant-loop-low
invariant-loop-low l = record {
  ordered : l.low ≤ l.high;
  within : l.high ≤ length l.reads;
  before : (k : ℕ) (d : PlacedRead) → k < l.low → slice_index_or l.reads k d ≡ l.read → ⊥;
  behind : (k : ℕ) (d : PlacedRead) → l.high ≤ k → k < length l.reads → slice_index_or l.reads k d ≡ l.read → ⊥;
}

abbrev pub decreases-loop-low : goal.decreases-loop-low
decreases-loop-low l = l.high - l.low
