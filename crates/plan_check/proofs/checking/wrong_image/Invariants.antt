use Rattle.std.proofs.Common.{◌<◌, ℕ}
use Rattle.plan_check.specs.Holding.{ImageHolds}
use Rattle.plan_check.proofs.checking.wrong_image.Given as goal

abbrev pub invariant-loop-k : goal.invariant-loop-k
invariant-loop-k l = (k : ℕ) → k < l.k → ImageHolds l.system l.images k
