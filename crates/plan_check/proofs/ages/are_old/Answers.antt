use Rattle.std.proofs.Common.{◌<◌, length, pos, arith, refl}
use Rattle.dk_base.proofs.Orders.{one_more}
use Rattle.raster_delay.specs.declared.placed.PlacedRead.{PlacedRead}
use Rattle.plan_check.specs.Holding.{IsOldOf, delays_of}
use Rattle.plan_check.proofs.ages.are_old.Goals as goal

pub loop-r-preserved : goal.loop-r-preserved
loop-r-preserved c =
    let none : PlacedRead = record { f = 0; g = 0; dx = pos 0; dy = pos 0 } in
    let below : c.loop-r.r-index < length c.args.reads.now = omega arith in
    one_more (IsOldOf c.args.row c.args.least (delays_of c.args.images.now) c.args.g) c.args.reads.now c.loop-r.r-index none below c.loop-r.invariant (c.if-not-is_old.ensures.0 refl)
