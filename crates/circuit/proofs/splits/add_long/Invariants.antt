use Rattle.std.proofs.Common.{◌≡◌, ◌++◌, drop, filter, nat_lt}
use Rattle.circuit.specs.Divided.{segments}
use Rattle.circuit.proofs.splits.add_long.Given as goal

abbrev pub invariant-loop-age : goal.invariant-loop-age
invariant-loop-age l =
    l.lengths.items ++ filter (nat_lt l.least) (segments l.low (drop l.age-index l.ages)) ≡ l.fn.lengths.items ++ filter (nat_lt l.least) (segments 0 l.ages)
