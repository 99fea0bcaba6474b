use Rattle.std.proofs.Common.{◌<◌, length, rules, arith}
use Rattle.value_rows.proofs.Steps.{filled_more, kept_at}
use Rattle.value_rows.proofs.parts.fill_part.Goals as goal

pub loop-k-preserved : goal.loop-k-preserved
loop-k-preserved g c =
    let worth = g.L.Element.worth in
    let k = c.loop-k.k in
    let to = c.loop-k.to in
    let element = c.narrow-element.result in
    let here : k < length to = search rules in
    record {
      long = search rules;
      begun = search rules;
      filled = filled_more worth to c.args.start k element _ here c.narrow-element.ensures c.loop-k.invariant.filled;
      before = λ j lt. let begun = c.loop-k.invariant.begun in kept_at worth to k j element _ (λ e. omega (arith, lt, e, begun)) (c.loop-k.invariant.before j lt);
      behind = λ j le. kept_at worth to k j element _ (λ e. omega (arith, le, e)) (c.loop-k.invariant.behind j (omega (arith, le)));
    }
