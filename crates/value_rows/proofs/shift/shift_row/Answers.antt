use Rattle.std.proofs.Common.{◌<◌, length, arith, rules, pos, ◌≤ℤ◌, ◌<ℤ◌}
use Rattle.std.specs.Prelude.{FitsSigned}
use Rattle.std.proofs.lemmas.Int.{to_z-of_z}
use mir.Syntax.{w32}
use Rattle.value_rows.proofs.Besides.{right_elements, left_elements}
use Rattle.value_rows.proofs.shift.shift_row.Goals as goal

pub returns-else-by-lt0 : goal.returns-else-by-lt0
returns-else-by-lt0 g c x lt =
    let fits : FitsSigned w32 c.args.by = search rules in
    let within : x < length c.args.from.now = omega (arith, c.requires.same, lt) in
    let ge : pos 0 ≤ℤ c.args.by = search rules in
    right_elements g.T.Element.worth g.L.Element.worth c.args.edge c.args.from.now c.read_right.new.to c.args.by c.distance-columns.result ge (rw (to_z-of_z w32 c.args.by fits) at c.distance-columns.ensures.near) (rw (to_z-of_z w32 c.args.by fits) at c.distance-columns.ensures.far) c.read_right.ensures.inside c.read_right.ensures.outside x within

pub returns-then-by-lt0 : goal.returns-then-by-lt0
returns-then-by-lt0 g c x lt =
    let fits : FitsSigned w32 c.args.by = search rules in
    let within : x < length c.args.from.now = omega (arith, c.requires.same, lt) in
    let below : c.args.by <ℤ pos 0 = search rules in
    left_elements g.T.Element.worth g.L.Element.worth c.args.edge c.args.from.now c.read_left.new.to c.args.by c.distance-columns.result below (rw (to_z-of_z w32 c.args.by fits) at c.distance-columns.ensures.near) (rw (to_z-of_z w32 c.args.by fits) at c.distance-columns.ensures.far) c.read_left.ensures.inside c.read_left.ensures.outside x within
