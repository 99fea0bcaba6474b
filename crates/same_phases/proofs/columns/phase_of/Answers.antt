use Rattle.std.proofs.Common.{subst}
use Rattle.dk_types.specs.Typed.{typing_of}
use Rattle.same_phases.specs.declared.role.Role.{Role}
use Rattle.same_phases.specs.Roles.{Plays}
use Rattle.same_phases.proofs.columns.phase_of.Goals as goal

pub returns-in-Some-Phase : goal.returns-in-Some-Phase
returns-in-Some-Phase c =
    let role = c.in-Some-Phase in
    subst (λ (r : Role). Plays c.args.phases (typing_of c.args.old.now) (typing_of c.args.new.now) r c.args.image) role.field-0-is (c.requires.roles c.args.image role.field-0 role.ensures)
