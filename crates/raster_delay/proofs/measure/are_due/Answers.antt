use Rattle.std.proofs.Common.{◌<◌, length, pos, arith, refl}
use Rattle.std.specs.Prelude.{◌≤ℤ◌}
use Rattle.dk_base.proofs.Orders.{one_more}
use Rattle.raster_delay.specs.Delays.{age_of}
use Rattle.raster_delay.specs.declared.placed.PlacedRead.{PlacedRead}
use Rattle.raster_delay.proofs.measure.are_due.Goals as goal

pub loop-r-preserved : goal.loop-r-preserved
loop-r-preserved c =
    let none : PlacedRead = record { f = 0; g = 0; dx = pos 0; dy = pos 0 } in
    let below : c.loop-r.r-index < length c.args.reads.now = omega arith in
    one_more (λ r. pos c.args.least ≤ℤ age_of c.args.row c.args.delays.now r) c.args.reads.now c.loop-r.r-index none below c.loop-r.invariant (c.if-not-is_due.ensures.0 refl)
