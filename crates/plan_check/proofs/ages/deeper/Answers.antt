use Rattle.std.proofs.Common.{◌≡◌, [], max, arith, rules}
use Rattle.std.specs.Prelude.{unsigned_abs}
use Rattle.raster_delay.specs.Delays.{age_of}
use Rattle.raster_delay.proofs.Bridge.{depth-cons_yes, depth-cons_no}
use Rattle.plan_check.specs.Holding.{delays_of}
use Rattle.plan_check.proofs.ages.deeper.Goals as goal

pub returns-then-r-g : goal.returns-then-r-g
returns-then-r-g c =
    let row = c.args.row in
    let d = delays_of c.args.images.now in
    let deeper : c.max.result ≡ max c.args.greatest (unsigned_abs (age_of row d c.args.r)) = search rules in
    omega (arith, deeper, depth-cons_yes row d c.args.r [] c.args.g c.if-r-g.true)

pub returns-else-r-g : goal.returns-else-r-g
returns-else-r-g c = omega (arith, depth-cons_no c.args.row (delays_of c.args.images.now) c.args.r [] c.args.g c.if-r-g.false)
