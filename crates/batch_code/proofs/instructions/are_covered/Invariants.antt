use Rattle.std.proofs.Common.{◌≡◌, ℕ, ◌<◌, false, true, Some}
use Rattle.std.specs.Prelude.{slice_get, slice_index_or, None}
use Rattle.wiring.specs.declared.netlist.Assign.{Assign}
use Rattle.wiring.specs.Rights.{array_of}
use Rattle.batch_code.proofs.instructions.are_covered.Given as goal

abbrev pub invariant-loop-number : goal.invariant-loop-number
invariant-loop-number l = (k : ℕ) (a : Assign) → k < l.number → slice_get l.wiring.assigns.items k ≡ Some a → array_of a.right ≡ None → slice_index_or l.marks k false ≡ true
