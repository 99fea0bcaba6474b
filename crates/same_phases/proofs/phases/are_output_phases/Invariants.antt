use Rattle.std.proofs.Common.{ℕ, ◌<◌}
use Rattle.dk_types.specs.Typed.{typing_of}
use Rattle.same_phases.specs.Roles.{IsOutputPhase}
use Rattle.same_phases.proofs.phases.are_output_phases.Given as goal

abbrev pub invariant-loop-j : goal.invariant-loop-j
invariant-loop-j l = record {
  phases : (i : ℕ) → i < l.j → IsOutputPhase l.fn.phases (typing_of l.fn.old) (typing_of l.fn.new) l.fn.roles i;
}
