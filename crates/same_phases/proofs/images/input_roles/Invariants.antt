use Rattle.std.proofs.Common.{◌≡◌, ℕ, ◌/◌, ◌%◌, ◌<◌, ◌≤◌, length, slice_get, Some}
use Rattle.same_phases.specs.declared.role.Role.{Role}
use Rattle.same_phases.specs.declared.role.Role.TheVariants.{Phase}
use Rattle.same_phases.proofs.images.input_roles.Given as goal

abbrev pub invariant-loop-h : goal.invariant-loop-h
invariant-loop-h l = record {
  most : l.h ≤ length l.fn.new.inputs;
  count : length l.roles.items ≡ l.h;
  each : (j : ℕ) (role : Role) → slice_get l.roles.items j ≡ Some role → (role ≡ Phase (j / l.fn.phases) (j % l.fn.phases)) × (j < l.h);
}
