-- What was found so far is a place in the list.
use Rattle.std.proofs.Common.{◌<◌, IfSome, length}
use Rattle.body_cuts.proofs.choices.deepest.Given as goal

abbrev pub invariant-loop-number : goal.invariant-loop-number
invariant-loop-number l = IfSome l.found (λ number. number < length l.choices)
