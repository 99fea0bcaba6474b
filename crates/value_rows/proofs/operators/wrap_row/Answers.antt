use Rattle.std.proofs.Common.{◌≤◌, sym, map, rules}
use Rattle.dk_base.specs.Types.{width_of}
use Rattle.value_rows.specs.Rows.{entry}
use Rattle.value_rows.proofs.Ends.{same_wrapped}
use Rattle.value_rows.proofs.operators.wrap_row.Goals as goal

pub returns-else-width : goal.returns-else-width
returns-else-width g c k lt =
    let fewer : width_of g.L.Element.ty ≤ width_of c.args.ty = search rules in
    sym (same_wrapped g.L.Element.ty c.args.ty (entry (map g.L.Element.worth c.args.to.now) k) c.element_type.ensures.typed fewer (c.requires.values k lt) (c.requires.fits k lt))
