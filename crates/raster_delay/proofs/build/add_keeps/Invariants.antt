use Rattle.std.proofs.Common.{◌≡◌, ◌++◌, map, take}
use Rattle.raster_delay.specs.Delays.{keep}
use Rattle.raster_delay.proofs.build.add_keeps.Given as goal

abbrev pub invariant-loop-r : goal.invariant-loop-r
invariant-loop-r l = l.all.items ≡ l.initial.all.items ++ map (keep l.row l.inputs l.images) (take l.r-index l.reads)
