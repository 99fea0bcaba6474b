use Rattle.std.proofs.Common.{rules, ◌≡◌, ℕ, ◌*◌, ◌<◌, ◌/◌, List, length, slice_get, subst}
use Rattle.std.specs.Prelude.{IfSome}
use Rattle.dk_types.specs.declared.typed.TypedInput.{TypedInput}
use Rattle.dk_types.specs.Typed.{typing_of, input_types}
use Rattle.same_phases.specs.declared.role.Role.{Role}
use Rattle.same_phases.specs.Roles.{ArePlayed, IsOutputPhase}
use Rattle.same_phases.proofs.Whole.{split_pictures}
use Rattle.same_phases.proofs.phases.have_phases.Goals as goal

pub returns-in-Some : goal.returns-in-Some
returns-in-Some c = λ yes.
    let n = c.args.phases in
    let old = typing_of c.args.old.now in
    let new = typing_of c.args.new.now in
    let roles = c.in-Some.roles.items in
    let played = subst (λ f. IfSome f (λ found. ArePlayed n old new found.items)) c.in-Some.is c.in_ok-roles.ensures in
    let all = c.have_input_types.ensures c.if-not-have_input_types.false in
    let types = subst (λ (is : List TypedInput). (j : ℕ) → j < length new.inputs → slice_get (input_types new.inputs) j ≡ slice_get (input_types is) (j / n)) c.inputs.ensures
    (subst (λ (is : List TypedInput). (j : ℕ) → j < length is → slice_get (input_types is) j ≡ slice_get (input_types c.inputs.result.now) (j / n)) c.inputs-2.ensures all) in
    let count : length new.outputs ≡ n * length old.outputs = search rules in
    let outputs = subst (λ (rs : List Role). (j : ℕ) → j < length new.outputs → IsOutputPhase n old new rs j) c.deref.ensures.value (c.are_output_phases.ensures yes) in
    split_pictures n old new roles (c.is_split.ensures c.if-not-is_split.false) played types count outputs
