use Rattle.dk_types.specs.Typed.{typing_of}
use Rattle.same_phases.specs.Roles.{ArePlayed}
use Rattle.same_phases.proofs.images.all_roles.Given as goal

abbrev pub invariant-loop : goal.invariant-loop
invariant-loop l = record {
  roles : ArePlayed l.fn.phases (typing_of l.fn.old) (typing_of l.fn.new) l.roles.items;
}
