use Rattle.std.proofs.Common.{rules, subst, ℕ, w64, FitsSigned}
use Rattle.dk_types.specs.Typed.{typing_of}
use Rattle.same_phases.specs.declared.role.Role.{Role}
use Rattle.same_phases.specs.Roles.{IsPhase, IsColumn, Plays}
use Rattle.same_phases.proofs.Words.{to_word}
use Rattle.same_phases.proofs.reads.reads_phase.Goals as goal

pub reads_phase_of-requires-clause-shows : goal.reads_phase_of-requires-clause-shows
reads_phase_of-requires-clause-shows c =
    let old = typing_of c.args.old.now in
    let new = typing_of c.args.new.now in
    let role = c.in-Some-Phase in
    subst (λ (g : ℕ). IsPhase c.args.at.phases old new g role.phase c.args.b.image) c.if-image-a.false
    (subst (λ (r : Role). Plays c.args.at.phases old new r c.args.b.image) role.field-0-is (c.requires.roles c.args.b.image role.field-0 role.ensures))

pub reads_column_of-requires-clause-shows : goal.reads_column_of-requires-clause-shows
reads_column_of-requires-clause-shows c =
    let old = typing_of c.args.old.now in
    let new = typing_of c.args.new.now in
    let role = c.in-Some-Column in
    let fits : FitsSigned w64 role.column = search rules in
    to_word w64 (λ z. IsColumn c.args.at.phases old new c.args.a.image z c.args.b.image) role.column fits
    (subst (λ (g : ℕ). IsColumn c.args.at.phases old new g role.column c.args.b.image) c.if-image-a-2.false
    (subst (λ (r : Role). Plays c.args.at.phases old new r c.args.b.image) role.field-0-is (c.requires.roles c.args.b.image role.field-0 role.ensures)))
