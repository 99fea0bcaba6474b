use Rattle.std.proofs.Common.{◌≡◌, drop}
use Rattle.circuit.specs.Splits.{ascends}
use Rattle.circuit.proofs.finer.ascends.Given as goal

abbrev pub invariant-loop-age : goal.invariant-loop-age
invariant-loop-age l = ascends 0 l.ages ≡ ascends l.low (drop l.age-index l.ages)
