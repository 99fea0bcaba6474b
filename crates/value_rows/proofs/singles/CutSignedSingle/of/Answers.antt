use Rattle.std.proofs.Common.{◌≡◌, rules, ap, sym, ◌∙◌, subst}
use Rattle.std.specs.Prelude.{FitsSigned}
use Rattle.std.proofs.lemmas.Int.{to_z-of_z}
use mir.Syntax.{w64}
use Rattle.dk_base.specs.declared.ty.Ty.TheVariants.{Signed}
use Rattle.dk_base.specs.Types.{IsIn}
use Rattle.dk_base.specs.Numbers.{wrap}
use Rattle.value_rows.proofs.singles.CutSignedSingle.of.Goals as goal

pub narrow-requires : goal.narrow-requires
narrow-requires g c =
    let w = c.args.self.now.width in
    let v = g.L.Element.worth c.args.operand in
    let value : FitsSigned w64 c.widen.result = search rules in
    let mask : FitsSigned w64 c.widen-2.result = search rules in
    let half : FitsSigned w64 c.widen-3.result = search rules in
    let cut : FitsSigned w64 c.cut_signed.result = search rules in
    let is = rw (to_z-of_z w64 c.widen.result value, to_z-of_z w64 c.widen-2.result mask, to_z-of_z w64 c.widen-3.result half) at c.cut_signed.ensures in
    let same : c.cut_signed.result ≡ wrap (Signed w) v = is w c.requires.0 c.requires.1 (c.widen-2.ensures.value ∙ c.requires.2) (c.widen-3.ensures.value ∙ c.requires.3) ∙ ap (wrap (Signed w)) c.widen.ensures.value in
    rw (to_z-of_z w64 c.cut_signed.result cut) (subst (IsIn g.L.Element.ty) (sym same) c.requires.4)

pub returns : goal.returns
returns g c =
    let w = c.args.self.now.width in
    let value : FitsSigned w64 c.widen.result = search rules in
    let mask : FitsSigned w64 c.widen-2.result = search rules in
    let half : FitsSigned w64 c.widen-3.result = search rules in
    let cut : FitsSigned w64 c.cut_signed.result = search rules in
    let is = rw (to_z-of_z w64 c.widen.result value, to_z-of_z w64 c.widen-2.result mask, to_z-of_z w64 c.widen-3.result half) at c.cut_signed.ensures in
    (rw (to_z-of_z w64 c.cut_signed.result cut) at c.narrow.ensures) ∙ is w c.requires.0 c.requires.1 (c.widen-2.ensures.value ∙ c.requires.2) (c.widen-3.ensures.value ∙ c.requires.3) ∙ ap (wrap (Signed w)) c.widen.ensures.value
