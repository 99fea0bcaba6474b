use Rattle.std.proofs.Common.{◌∙◌, ap, ◌<◌, ℕ, length, map, rules}
use Rattle.std.specs.Prelude.{slice_index, if◌then◌else◌, ◌==◌}
use Rattle.lane_rows.proofs.LaneRows.{one_more, read_is}
use Rattle.batch_rows.proofs.choices.choose_or_number_row.Goals as goal

pub loop-t-preserved : goal.loop-t-preserved
loop-t-preserved g c =
    let value = g.L.Lane.value in
    let bits = g.B.Lane.value in
    let f : ℕ → ℕ → ℕ = λ bit on. if bit == 1 then on else value c.args.number in
    let t = c.loop-t.t in
    let bit = c.args.bit.now in
    let on = c.args.on.now in
    let here : t < length c.loop-t.to = search rules in
    let first : t < length bit = search rules in
    let left : t < length on = search rules in (
      search rules,
      one_more value c.loop-t.to t c.chosen.result (λ k. f (slice_index (map bits bit) k) (slice_index (map value on) k)) here
          (c.chosen.ensures
          ∙ ap (λ x. f x (value c.index-on-t.result)) (read_is bits bit t c.index-bit-t.result first c.index-bit-t.is)
          ∙ ap (f (slice_index (map bits bit) t)) (read_is value on t c.index-on-t.result left c.index-on-t.is))
          c.loop-t.invariant.1,
    )
