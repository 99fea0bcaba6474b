use Rattle.std.proofs.Common.{◌≡◌, ◌++◌, ◌-◌, ◌∷◌, replicate}
use Rattle.circuit.specs.Divided.{ages_after}
use Rattle.circuit.proofs.splits.add_segment.Given as goal

abbrev pub invariant-loop-age : goal.invariant-loop-age
invariant-loop-age l =
    l.split.items ++ ages_after l.age (replicate (l.high - l.age) 1) ≡ l.fn.split.items ++ ages_after l.low (l.first ∷ replicate (l.high - l.low - l.first) 1)
