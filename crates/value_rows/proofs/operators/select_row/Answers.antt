use Rattle.std.proofs.Common.{◌∙◌, ◌<◌, ◌≤◌, ap, length, map, rules, arith}
use Rattle.dk_base.specs.Operators.{select_value}
use Rattle.value_rows.specs.Rows.{entry}
use Rattle.value_rows.proofs.Steps.{done_more, rest_less, read_is}
use Rattle.value_rows.proofs.operators.select_row.Goals as goal

pub loop-k-preserved : goal.loop-k-preserved
loop-k-preserved g c =
    let worth = g.L.Element.worth in
    let k = c.loop-k.k in
    let here : k < length c.loop-k.to = search rules in
    let first : k < length c.args.left.now = search rules in
    let second : k < length c.args.right.now = search rules in
    let now : k ≤ k = omega arith in
    let condition = read_is worth c.loop-k.to k c.index-to-k.result here c.index-to-k.is ∙ c.loop-k.invariant.rest k now in
    let left = read_is worth c.args.left.now k c.index-left-k.result first c.index-left-k.is in
    let right = read_is worth c.args.right.now k c.index-right-k.result second c.index-right-k.is in
    record {
      long = search rules;
      done = done_more worth c.loop-k.to k c.choice.result (λ j. select_value (entry (map worth c.args.to.now) j) (entry (map worth c.args.left.now) j) (entry (map worth c.args.right.now) j)) here
          (c.choice.ensures ∙ ap (λ x. select_value x (worth c.index-left-k.result) (worth c.index-right-k.result)) condition
          ∙ ap (λ x. select_value (entry (map worth c.args.to.now) k) x (worth c.index-right-k.result)) left
          ∙ ap (select_value (entry (map worth c.args.to.now) k) (entry (map worth c.args.left.now) k)) right) c.loop-k.invariant.done;
      rest = rest_less worth c.loop-k.to k c.choice.result (entry (map worth c.args.to.now)) c.loop-k.invariant.rest;
    }
