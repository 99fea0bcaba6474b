use Rattle.std.proofs.Common.{◌≡◌, ◌∙◌, ap, ◌<◌, ◌%◌, ◌^◌, length, map, rules}
use Rattle.std.specs.Prelude.{slice_index}
use Rattle.lane_rows.proofs.LaneRows.{one_more, read_is}
use Rattle.std.proofs.Math.Nat.{mod-eq_of_lt}
use Rattle.lane_rows.proofs.row.convert_row.Goals as goal

pub loop-t-preserved : goal.loop-t-preserved
loop-t-preserved g c =
    let from = g.A.Lane.value in
    let value = g.L.Lane.value in
    let bits = g.L.Lane.bits in
    let t = c.loop-t.t in
    let a = c.args.a.now in
    let here : t < length c.loop-t.to = search rules in
    let first : t < length c.args.to.now = search rules in
    let left : t < length a = search rules in
    let is : c.word.result ≡ slice_index (map from a) t = c.word.ensures.value ∙ read_is from a t c.index-a-t.result left c.index-a-t.is in (
      search rules,
      one_more value c.loop-t.to t c.cut.result (λ k. slice_index (map from a) k) here
          (c.cut.ensures ∙ ap (λ n. n % 2 ^ bits) is ∙ mod-eq_of_lt (c.requires.fits t first))
          c.loop-t.invariant.1,
    )
