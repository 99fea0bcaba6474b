use Rattle.std.proofs.Common.{map, ◌-◌, ℕ, length, ap, ◌∙◌}
use Rattle.std.specs.Prelude.{slice_index, slice_set}
use Rattle.std.proofs.lemmas.List.{length-set}
use Rattle.lane_rows.proofs.TakenBack.{one_back}
use Rattle.lane_rows.proofs.words.take_back.Goals as goal

pub loop-done-preserved : goal.loop-done-preserved
loop-done-preserved g c =
    let n = length c.args.index.now in
    let t = n - 1 - c.loop-done.done in (
      length-set c.loop-done.words c.number_at.result (slice_index c.args.lost.now t) ∙ c.loop-done.invariant.0,
      λ before value is inside kept.
          ap (λ (i : ℕ). slice_set c.loop-done.words i (slice_index c.args.lost.now t)) c.number_at.ensures
          ∙ one_back before (map g.I.Lane.value c.args.index.now) value c.args.lost.now c.loop-done.words n c.loop-done.done c.loop-done-test.true (c.loop-done.invariant.1 before value is inside kept) kept,
    )
