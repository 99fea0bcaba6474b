use Rattle.std.proofs.Common.{◌≡◌, ℕ, ◌/◌, ◌<◌, slice_get}
use Rattle.dk_types.specs.Typed.{input_types}
use Rattle.same_phases.proofs.phases.have_input_types.Given as goal

abbrev pub invariant-loop-j : goal.invariant-loop-j
invariant-loop-j l = record {
  types : (i : ℕ) → i < l.j → slice_get (input_types l.fn.new) i ≡ slice_get (input_types l.fn.old) (i / l.fn.phases);
}
