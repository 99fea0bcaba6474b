use Rattle.std.proofs.Common.{◌<◌, ℕ}
use Rattle.plan_check.specs.Holding.{HasConstraint}
use Rattle.plan_check.specs.Judging.{line_at}
use Rattle.plan_check.proofs.checking.wrong_constraint.Given as goal

abbrev pub invariant-loop-k : goal.invariant-loop-k
invariant-loop-k l = (k : ℕ) → k < l.k → HasConstraint l.system (line_at l.flow k)
