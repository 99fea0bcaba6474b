use Rattle.std.proofs.Common.{◌∙◌, ◌<◌, ◌≤◌, ap, length, map, rules, arith}
use Rattle.value_rows.specs.Rows.{entry}
use Rattle.value_rows.proofs.Steps.{done_more, rest_less, read_is}
use Rattle.value_rows.proofs.singles.single_row.Goals as goal

pub loop-k-preserved : goal.loop-k-preserved
loop-k-preserved g c =
    let worth = g.L.Element.worth in
    let f = g.S.Single.value c.args.single.now in
    let k = c.loop-k.k in
    let here : k < length c.loop-k.to = search rules in
    let now : k ≤ k = omega arith in
    let read = read_is worth c.loop-k.to k c.index-to-k.result here c.index-to-k.is ∙ c.loop-k.invariant.rest k now in
    record {
      long = search rules;
      done = done_more worth c.loop-k.to k c.of.result (λ j. f (entry (map worth c.args.to.now) j)) here (c.of.ensures ∙ ap f read) c.loop-k.invariant.done;
      rest = rest_less worth c.loop-k.to k c.of.result (entry (map worth c.args.to.now)) c.loop-k.invariant.rest;
    }
