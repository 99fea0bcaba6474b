use Rattle.std.proofs.Common.{◌≡◌, max, drop}
use Rattle.buffer_plan.specs.Limits.{greatest_delay}
use Rattle.buffer_plan.proofs.planning.greatest_delay.Given as goal

abbrev pub invariant-loop-number : goal.invariant-loop-number
invariant-loop-number l = max l.greatest (greatest_delay l.images l.delays (drop l.number-index l.numbers)) ≡ greatest_delay l.images l.delays l.numbers
