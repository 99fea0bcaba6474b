use Rattle.std.proofs.Common.{◌≡◌, ◌++◌, map, ◌-◌}
use Rattle.std.specs.List.{range_with_len}
use Rattle.raster_delay.specs.Delays.{start}
use Rattle.raster_delay.proofs.build.add_starts.Given as goal

abbrev pub invariant-loop-k : goal.invariant-loop-k
invariant-loop-k l = l.all.items ≡ l.initial.all.items ++ map (start l.inputs) (range_with_len l.inputs (l.k - l.inputs))
