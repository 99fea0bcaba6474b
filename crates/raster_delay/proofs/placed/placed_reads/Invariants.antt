use Rattle.std.proofs.Common.{◌≡◌, take}
use Rattle.raster_delay.specs.Placing.{reads_of}
use Rattle.raster_delay.proofs.placed.placed_reads.Given as goal

abbrev pub invariant-loop-r : goal.invariant-loop-r
invariant-loop-r l = l.placed.items ≡ reads_of l.images (take l.r-index l.reads)
