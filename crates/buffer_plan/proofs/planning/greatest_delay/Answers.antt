use Rattle.std.proofs.Common.{◌<◌, slice_index, length, arith, ap}
use Rattle.std.proofs.lemmas.List.{drop_more}
use Rattle.buffer_plan.specs.Limits.{greatest_delay}
use Rattle.buffer_plan.proofs.planning.greatest_delay.Goals as goal

pub loop-number-preserved : goal.loop-number-preserved
loop-number-preserved c =
    let images = c.args.images.now in
    let d = c.args.delays.now in
    let numbers = c.args.numbers.now in
    let i = c.loop-number.number-index in
    let below : i < length numbers = omega arith in
    let split = ap (greatest_delay images d) (drop_more numbers i 0 below) in
    omega (arith, c.loop-number.invariant, split, c.max-greatest.ensures, ap (slice_index d) c.place_of.ensures)
