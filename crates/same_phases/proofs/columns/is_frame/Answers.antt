use Rattle.std.proofs.Common.{subst}
use Rattle.dk_types.specs.Typed.{typing_of}
use Rattle.same_phases.specs.declared.role.Role.{Role}
use Rattle.same_phases.specs.Roles.{Plays}
use Rattle.same_phases.proofs.columns.is_frame.Goals as goal

pub returns-in-Some-Frame : goal.returns-in-Some-Frame
returns-in-Some-Frame c = λ yes.
    let role = c.in-Some-Frame in
    subst (λ (r : Role). Plays c.args.phases (typing_of c.args.old.now) (typing_of c.args.new.now) r c.args.image) role.field-0-is (c.requires.roles c.args.image role.field-0 role.ensures)
