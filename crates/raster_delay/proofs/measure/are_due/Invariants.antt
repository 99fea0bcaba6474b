use Rattle.std.proofs.Common.{◌<◌, ℕ, pos}
use Rattle.std.specs.Prelude.{◌≤ℤ◌, slice_index_or}
use Rattle.raster_delay.specs.Delays.{age_of}
use Rattle.raster_delay.specs.declared.placed.PlacedRead.{PlacedRead}
use Rattle.raster_delay.proofs.measure.are_due.Given as goal

abbrev pub invariant-loop-r : goal.invariant-loop-r
invariant-loop-r l = (k : ℕ) (d : PlacedRead) → k < l.r-index → pos l.least ≤ℤ age_of l.row l.delays (slice_index_or l.reads k d)
