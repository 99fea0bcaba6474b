use Rattle.std.proofs.Common.{◌≡◌, ℕ, suc, ◌<◌, map}
use Rattle.std.specs.Prelude.{IsTrue, slice_index}
use Rattle.batch_sim.proofs.judge.registers.follows.Given as goal

abbrev pub invariant-loop-t : goal.invariant-loop-t
invariant-loop-t g l = (IsTrue l.same → slice_index (map g.A.Lane.value l.row) 0 ≡ l.stored) × (IsTrue l.same → (t : ℕ) → t < l.t → slice_index (map g.A.Lane.value l.row) (suc t) ≡ slice_index (map g.B.Lane.value l.next) t)
