use Rattle.std.proofs.Common.{◌≡◌, ◌≤◌, ◌^◌, max, drop}
use Rattle.raster_delay.specs.Delays.{depth_of}
use Rattle.raster_delay.proofs.measure.depth_among.Given as goal

abbrev pub invariant-loop-r : goal.invariant-loop-r
invariant-loop-r l = record {
  rest : max l.greatest (depth_of l.row l.delays (drop l.r-index l.reads) l.g) ≡ depth_of l.row l.delays l.reads l.g;
  near : l.greatest ≤ 2 ^ 35;
}
