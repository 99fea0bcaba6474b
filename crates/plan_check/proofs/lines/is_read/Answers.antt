use Rattle.std.proofs.Common.{◌<◌, ◌+◌, ◌-◌, ◌/◌, length, pos, arith, refl}
use Rattle.raster_delay.specs.declared.placed.PlacedRead.{PlacedRead}
use Rattle.plan_check.proofs.Order.{not_before, not_behind}
use Rattle.plan_check.proofs.lines.is_read.Goals as goal

pub loop-low-preserved-then-is_earlier : goal.loop-low-preserved-then-is_earlier
loop-low-preserved-then-is_earlier c =
    let reads = c.args.reads.now in
    let none : PlacedRead = record { f = 0; g = 0; dx = pos 0; dy = pos 0 } in
    let m = c.loop-low.low + (c.loop-low.high - c.loop-low.low) / 2 in
    let within : m < length reads = omega arith in
    record {
      ordered = omega arith;
      within = c.loop-low.invariant.within;
      before = not_before reads c.requires c.args.read m none within (c.if-is_earlier.ensures.0 refl);
      behind = c.loop-low.invariant.behind;
    }

pub loop-low-preserved : goal.loop-low-preserved
loop-low-preserved c =
    let reads = c.args.reads.now in
    let none : PlacedRead = record { f = 0; g = 0; dx = pos 0; dy = pos 0 } in
    let m = c.loop-low.low + (c.loop-low.high - c.loop-low.low) / 2 in
    let within : m < length reads = omega arith in
    record {
      ordered = omega arith;
      within = omega arith;
      before = c.loop-low.invariant.before;
      behind = not_behind reads c.requires c.args.read m none within
          (λ h. let e : ⊥ = cc (c.if-is_earlier.ensures.1 h) in e) (λ h. let e : ⊥ = cc (c.if-is_same.ensures.1 h) in e);
    }
