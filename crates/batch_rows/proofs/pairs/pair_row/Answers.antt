use Rattle.std.proofs.Common.{◌∙◌, ap, ◌<◌, length, map, rules}
use Rattle.std.specs.Prelude.{slice_index}
use Rattle.lane_rows.proofs.LaneRows.{one_more, read_is}
use Rattle.batch_rows.proofs.pairs.pair_row.Goals as goal

pub loop-t-preserved : goal.loop-t-preserved
loop-t-preserved g c =
    let value = g.L.Lane.value in
    let f = g.P.Pair.value c.args.pair.now in
    let t = c.loop-t.t in
    let a = c.args.a.now in
    let b = c.args.b.now in
    let here : t < length c.loop-t.to = search rules in
    let left : t < length a = search rules in
    let right : t < length b = search rules in (
      search rules,
      one_more value c.loop-t.to t c.of.result (λ k. f (slice_index (map value a) k) (slice_index (map value b) k)) here
          (c.of.ensures ∙ ap (λ x. f x (value c.index-b-t.result)) (read_is value a t c.index-a-t.result left c.index-a-t.is) ∙ ap (f (slice_index (map value a) t)) (read_is value b t c.index-b-t.result right c.index-b-t.is))
          c.loop-t.invariant.1,
    )
