use Rattle.std.proofs.Common.{◌<◌, ◌+◌, [], pos, drop, length, get_or, arith, ap, inl, inr}
use Rattle.std.proofs.lemmas.Bool.{cases_eq}
use Rattle.std.proofs.lemmas.List.{drop_more}
use Rattle.raster_delay.specs.Delays.{depth_of}
use Rattle.raster_delay.specs.declared.placed.PlacedRead.{PlacedRead}
use Rattle.raster_delay.proofs.Bridge.{depth-cons_yes, depth-cons_no}
use Rattle.plan_check.specs.Holding.{delays_of}
use Rattle.plan_check.proofs.ages.depth.Goals as goal

pub loop-r-preserved : goal.loop-r-preserved
loop-r-preserved c =
    let row = c.args.row in
    let d = delays_of c.args.images.now in
    let reads = c.args.reads.now in
    let i = c.loop-r.r-index in
    let none : PlacedRead = record { f = 0; g = 0; dx = pos 0; dy = pos 0 } in
    let below : i < length reads = omega arith in
    let split = ap (λ xs. depth_of row d xs c.args.g) (drop_more reads i none below) in
    let told = c.deeper-greatest.ensures in
    elim (cases_eq (get_or reads i none).g c.args.g) [
      | inl same ↦ omega (arith, c.loop-r.invariant, split, depth-cons_yes row d (get_or reads i none) (drop (i + 1) reads) c.args.g same, told, depth-cons_yes row d (get_or reads i none) [] c.args.g same)
      | inr other ↦ omega (arith, c.loop-r.invariant, split, depth-cons_no row d (get_or reads i none) (drop (i + 1) reads) c.args.g other, told, depth-cons_no row d (get_or reads i none) [] c.args.g other)
    ]
