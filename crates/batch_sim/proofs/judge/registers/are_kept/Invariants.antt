use Rattle.std.proofs.Common.{◌≡◌, ℕ, ◌+◌, ◌<◌, Some, length}
use Rattle.std.specs.Prelude.{slice_get, slice_index}
use Rattle.wiring.specs.declared.right.Atom.{Atom}
use Rattle.lane_rows.specs.Values.{values_of}
use Rattle.batch_code.specs.Rows.{KeepsRegister}
use Rattle.batch_sim.proofs.judge.registers.are_kept.Given as goal

abbrev pub invariant-loop-r : goal.invariant-loop-r
invariant-loop-r l = (length l.spare.items ≡ length l.initial.spare.items) × ((r : ℕ) (next : Atom ℕ) → r < l.r → slice_get l.nexts r ≡ Some next → KeepsRegister (values_of l.rows) l.count (slice_index l.stored r) (l.first + r) next)
