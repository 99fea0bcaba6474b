use Rattle.std.proofs.Common.{◌<◌, ◌≤◌, length, rules}
use Rattle.lane_rows.proofs.LaneRows.{each_more}
use Rattle.lane_rows.proofs.row.trim_numbers.Goals as goal

pub loop-t-preserved : goal.loop-t-preserved
loop-t-preserved g c =
    let here : c.loop-t.t < length c.loop-t.to = search rules in (
      search rules,
      each_more g.L.Lane.value (λ n. n ≤ c.args.mask) c.loop-t.to c.loop-t.t c.trimmed.result here c.trimmed.ensures c.loop-t.invariant.1,
    )
