use Rattle.std.proofs.Common.{◌<◌, length, arith, ap}
use Rattle.std.proofs.lemmas.Int.{ints}
use Rattle.std.proofs.lemmas.List.{drop_more}
use Rattle.raster_delay.specs.Network.{worth}
use Rattle.report_text.specs.declared.report.FlowLine.TheVariants.{Hold}
use Rattle.plan_check.specs.Sums.{carriers, amounts}
use Rattle.plan_check.proofs.flow.worth.Goals as goal

pub loop-line-preserved : goal.loop-line-preserved
loop-line-preserved c =
    let s = c.args.system.now in
    let flow = c.args.flow.now in
    let i = c.loop-line.line-index in
    let below : i < length flow = omega arith in
    let split = ap (λ xs. worth (carriers s xs) (amounts xs)) (drop_more flow i (Hold 0 0) below) in
    let few = c.requires.few in
    let low = c.loop-line.invariant.low in
    let high = c.loop-line.invariant.high in
    let p = c.price_of-sum.ensures in
    record {
      sum = omega (arith, ints, c.loop-line.invariant.sum, split, p.value, few, low, high, p.least, p.most);
      low = omega (arith, ints, few, low, high, p.least, p.most);
      high = omega (arith, ints, few, low, high, p.least, p.most);
    }
