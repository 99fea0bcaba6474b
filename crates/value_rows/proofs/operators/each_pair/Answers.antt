use Rattle.std.proofs.Common.{◌∙◌, ◌<◌, ◌≤◌, ap, length, map, rules, arith}
use Rattle.dk_base.specs.Operators.{binary_value}
use Rattle.dk_base.specs.Types.{IsIn}
use Rattle.pointwise_ir.specs.Operands.{TakesTwo}
use Rattle.value_rows.proofs.Ends.{of_both}
use Rattle.value_rows.specs.Rows.{entry}
use Rattle.value_rows.proofs.Steps.{done_more, rest_less, read_is}
use Rattle.value_rows.proofs.operators.each_pair.Goals as goal

pub pair-requires-clause-takes : goal.pair-requires-clause-takes
pair-requires-clause-takes g c =
    let worth = g.L.Element.worth in
    let k = c.loop-k.k in
    let here : k < length c.loop-k.to = search rules in
    let there : k < length c.args.right.now = search rules in
    let within : k < length c.args.to.now = search rules in
    let now : k ≤ k = omega arith in
    let left = read_is worth c.loop-k.to k c.index-to-k.result here c.index-to-k.is ∙ c.loop-k.invariant.rest k now in
    let right = read_is worth c.args.right.now k c.index-right-k.result there c.index-right-k.is in
    of_both (TakesTwo c.args.op) _ _ _ _ left right (c.requires.takes k within)

pub pair-requires-clause-fits : goal.pair-requires-clause-fits
pair-requires-clause-fits g c =
    let worth = g.L.Element.worth in
    let k = c.loop-k.k in
    let here : k < length c.loop-k.to = search rules in
    let there : k < length c.args.right.now = search rules in
    let within : k < length c.args.to.now = search rules in
    let now : k ≤ k = omega arith in
    let left = read_is worth c.loop-k.to k c.index-to-k.result here c.index-to-k.is ∙ c.loop-k.invariant.rest k now in
    let right = read_is worth c.args.right.now k c.index-right-k.result there c.index-right-k.is in
    of_both (λ x y. IsIn g.L.Element.ty (binary_value c.args.op x y)) _ _ _ _ left right (c.requires.fits k within)

pub loop-k-preserved : goal.loop-k-preserved
loop-k-preserved g c =
    let worth = g.L.Element.worth in
    let f = binary_value c.args.op in
    let k = c.loop-k.k in
    let here : k < length c.loop-k.to = search rules in
    let there : k < length c.args.right.now = search rules in
    let now : k ≤ k = omega arith in
    let left = read_is worth c.loop-k.to k c.index-to-k.result here c.index-to-k.is ∙ c.loop-k.invariant.rest k now in
    let right = read_is worth c.args.right.now k c.index-right-k.result there c.index-right-k.is in
    record {
      long = search rules;
      done = done_more worth c.loop-k.to k c.pair.result (λ j. f (entry (map worth c.args.to.now) j) (entry (map worth c.args.right.now) j)) here
          (c.pair.ensures ∙ ap (λ x. f x (worth c.index-right-k.result)) left ∙ ap (f (entry (map worth c.args.to.now) k)) right) c.loop-k.invariant.done;
      rest = rest_less worth c.loop-k.to k c.pair.result (entry (map worth c.args.to.now)) c.loop-k.invariant.rest;
    }
