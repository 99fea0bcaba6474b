use Rattle.std.proofs.Common.{◌∙◌, ap, ◌<◌, length, map, rules}
use Rattle.std.specs.Prelude.{slice_index}
use Rattle.lane_rows.proofs.LaneRows.{one_more, read_is}
use Rattle.batch_rows.proofs.singles.single_row.Goals as goal

pub loop-t-preserved : goal.loop-t-preserved
loop-t-preserved g c =
    let value = g.L.Lane.value in
    let f = g.S.Single.value c.args.single.now in
    let t = c.loop-t.t in
    let a = c.args.a.now in
    let here : t < length c.loop-t.to = search rules in
    let left : t < length a = search rules in (
      search rules,
      one_more value c.loop-t.to t c.of.result (λ k. f (slice_index (map value a) k)) here
          (c.of.ensures ∙ ap f (read_is value a t c.index-a-t.result left c.index-a-t.is))
          c.loop-t.invariant.1,
    )
