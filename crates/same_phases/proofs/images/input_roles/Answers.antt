use Rattle.std.proofs.Common.{◌<◌, length, arith, sym, subst}
use Rattle.dk_types.specs.Typed.{typing_of}
use Rattle.same_phases.specs.declared.role.Role.{Role}
use Rattle.same_phases.specs.Roles.{Plays}
use Rattle.same_phases.proofs.Played.{input_at}
use Rattle.same_phases.proofs.images.input_roles.Goals as goal

pub returns : goal.returns
returns c = λ h role there.
    let n = c.args.phases in
    let old = typing_of c.args.old.now in
    let new = typing_of c.args.new.now in
    let (is, low) = c.loop-h.invariant.each h role there in
    let most = c.loop-h.invariant.most in
    let lt : h < length new.inputs = omega (arith, low, most) in
    subst (λ (r : Role). Plays n old new r h) (sym is) (input_at n old new c.requires.split h lt)
