use Rattle.std.proofs.Common.{rules, sym, subst}
use Rattle.std.specs.Prelude.{FitsSigned}
use Rattle.std.proofs.lemmas.Int.{to_z-of_z}
use mir.Syntax.{w64}
use Rattle.dk_base.specs.Types.{IsIn}
use Rattle.value_rows.proofs.Ends.{mask_in}
use Rattle.value_rows.proofs.operators.mask_of.Goals as goal

pub narrow-requires : goal.narrow-requires
narrow-requires g c =
    let fits : FitsSigned w64 c.mask.result = search rules in
    rw (to_z-of_z w64 c.mask.result fits) (subst (IsIn g.L.Element.ty) (sym c.mask.ensures) (mask_in g.L.Element.ty c.args.width c.requires.few))
