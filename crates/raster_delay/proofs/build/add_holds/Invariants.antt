use Rattle.std.proofs.Common.{◌≡◌, ◌++◌, map}
use Rattle.std.specs.List.{range_with_len}
use Rattle.raster_delay.specs.Delays.{hold}
use Rattle.raster_delay.proofs.build.add_holds.Given as goal

abbrev pub invariant-loop-k : goal.invariant-loop-k
invariant-loop-k l = l.all.items ≡ l.initial.all.items ++ map (hold l.inputs l.images) (range_with_len 0 l.k)
