use Rattle.std.proofs.Common.{map, ◌≡◌, ◌∙◌, ◌+◌, ◌-◌, ◌<◌, length, ap, arith}
use Rattle.value_rows.specs.Rows.{entry}
use Rattle.value_rows.proofs.shift.read_right.Goals as goal

pub returns-clause-inside : goal.returns-clause-inside
returns-clause-inside g c x lt =
    let e : c.args.by + x ≡ x + c.args.by = omega arith in
    let z : x ≡ 0 + x = omega arith in
    let within : x < length c.args.from.now - c.args.by = omega (arith, lt) in
    c.fill_part.ensures.before x within ∙ ap (entry (map g.L.Element.worth c.copy_part.new.to)) z ∙ c.copy_part.ensures.copied x within ∙ ap (entry (map g.T.Element.worth c.args.from.now)) e
