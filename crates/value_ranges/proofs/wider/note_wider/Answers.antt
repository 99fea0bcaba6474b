use Rattle.std.proofs.Common.{rules, refl, ◌<◌, ◌+◌, length}
use Rattle.value_ranges.proofs.Widened.{there_is, added}
use Rattle.value_ranges.proofs.wider.note_wider.Goals as goal

pub returns : goal.returns
returns c =
    let images = c.args.program.now.images in
    let within : c.args.k < length images = search rules in
    let (d, there) = there_is images c.args.k within in
    added c.args.ranges.now c.args.program.now c.args.is_same c.args.k (length c.args.program.now.inputs + c.args.k) d c.type_at.result c.in-Some.range c.in_ok-entry.entry c.args.wider.now.items _
    refl there (search rules) (c.type_at.ensures.is d there) (search rules) (search rules) c.in_ok-push.ensures.items
