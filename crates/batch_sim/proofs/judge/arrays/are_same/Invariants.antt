use Rattle.std.proofs.Common.{◌≡◌, ℕ, ◌<◌, map}
use Rattle.std.specs.Prelude.{IsTrue, slice_index}
use Rattle.batch_sim.proofs.judge.arrays.are_same.Given as goal

abbrev pub invariant-loop-t : goal.invariant-loop-t
invariant-loop-t g l = IsTrue l.same → (j : ℕ) → j < l.t → slice_index (map g.V.Lane.value l.b) j ≡ slice_index l.a j
