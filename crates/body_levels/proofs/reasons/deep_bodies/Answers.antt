use Rattle.std.proofs.Common.{rules, ◌<◌, length}
use Rattle.body_levels.proofs.Noted.{there_is, noted}
use Rattle.body_levels.proofs.reasons.deep_bodies.Goals as goal

pub loop-k-preserved : goal.loop-k-preserved
loop-k-preserved c =
    let p = c.args.program.now in
    let within : c.loop-k.k < length p.images = search rules in
    let (d, there) = there_is p.images c.loop-k.k within in
    record { before = noted c.args.most p c.loop-k.k d _ _ there c.loop-k.invariant.before (c.in_ok-note_deep.ensures d there) }
