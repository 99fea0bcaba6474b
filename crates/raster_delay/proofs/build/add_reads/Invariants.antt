use Rattle.std.proofs.Common.{◌≡◌, ◌++◌, map, take}
use Rattle.raster_delay.specs.Delays.{read}
use Rattle.raster_delay.proofs.build.add_reads.Given as goal

abbrev pub invariant-loop-r : goal.invariant-loop-r
invariant-loop-r l = l.all.items ≡ l.initial.all.items ++ map (read l.row l.age l.inputs) (take l.r-index l.reads)
