use Rattle.std.proofs.Common.{◌≡◌, max, drop}
use Rattle.raster_delay.specs.Delays.{depth_of}
use Rattle.plan_check.specs.Holding.{delays_of}
use Rattle.plan_check.proofs.ages.depth.Given as goal

abbrev pub invariant-loop-r : goal.invariant-loop-r
invariant-loop-r l = max l.greatest (depth_of l.row (delays_of l.images) (drop l.r-index l.reads) l.g) ≡ depth_of l.row (delays_of l.images) l.reads l.g
