use Rattle.std.proofs.Common.{◌≡◌, max, drop}
use Rattle.plan_check.specs.Holding.{greatest}
use Rattle.plan_check.proofs.sums.greatest.Given as goal

abbrev pub invariant-loop-number : goal.invariant-loop-number
invariant-loop-number l = max l.most (greatest (drop l.number-index l.numbers)) ≡ greatest l.numbers
