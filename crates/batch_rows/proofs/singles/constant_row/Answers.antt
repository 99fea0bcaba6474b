use Rattle.std.proofs.Common.{◌<◌, length, refl, rules}
use Rattle.lane_rows.proofs.LaneRows.{one_more}
use Rattle.batch_rows.proofs.singles.constant_row.Goals as goal

pub loop-t-preserved : goal.loop-t-preserved
loop-t-preserved g c =
    let value = g.L.Lane.value in
    let here : c.loop-t.t < length c.loop-t.to = search rules in (
      search rules,
      one_more value c.loop-t.to c.loop-t.t c.args.number (λ _. value c.args.number) here refl c.loop-t.invariant.1,
    )
