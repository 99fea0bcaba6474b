use Rattle.std.proofs.Common.{◌<◌, ℕ}
use Rattle.std.specs.Prelude.{slice_index_or}
use Rattle.raster_delay.specs.declared.placed.PlacedRead.{PlacedRead}
use Rattle.plan_check.specs.Holding.{IsOldOf, delays_of}
use Rattle.plan_check.proofs.ages.are_old.Given as goal

abbrev pub invariant-loop-r : goal.invariant-loop-r
invariant-loop-r l = (k : ℕ) (d : PlacedRead) → k < l.r-index → IsOldOf l.row l.least (delays_of l.images) l.g (slice_index_or l.reads k d)
