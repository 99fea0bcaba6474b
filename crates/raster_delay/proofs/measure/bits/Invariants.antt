use Rattle.std.proofs.Common.{◌≡◌, ◌≤◌, ◌^◌, ◌*◌}
use Rattle.raster_delay.specs.Systems.{widths, placed_reads}
use Rattle.raster_delay.proofs.Bridge.{bits_before}
use Rattle.raster_delay.proofs.measure.bits.Given as goal

abbrev pub invariant-loop-g : goal.invariant-loop-g
invariant-loop-g l = record {
  sum : l.total ≡ bits_before l.system.stencils.width l.delays (placed_reads l.system) (widths l.system) l.g;
  near : l.total ≤ l.g * 2 ^ 41;
}
