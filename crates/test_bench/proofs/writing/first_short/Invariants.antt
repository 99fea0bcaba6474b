use Rattle.std.proofs.Common.{ℕ, ◌<◌}
use Rattle.test_bench.specs.Writing.{HasEnough}
use Rattle.test_bench.proofs.writing.first_short.Given as goal

abbrev pub invariant-loop-k : goal.invariant-loop-k
invariant-loop-k l = (j : ℕ) → j < l.k → HasEnough l.pictures l.asked j
