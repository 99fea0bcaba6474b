use Rattle.body_cuts.proofs.reached.reached.Given as goal

abbrev pub invariant-loop-number : goal.invariant-loop-number
invariant-loop-number l = Unit {0}

abbrev pub decreases-loop-number : goal.decreases-loop-number
decreases-loop-number l = l.number
