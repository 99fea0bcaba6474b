use Rattle.std.proofs.Common.{◌≡◌, true, take}
use Rattle.std.specs.List.{list_all}
use Rattle.circuit.specs.Splits.{has_age}
use Rattle.circuit.proofs.finer.has_each.Given as goal

abbrev pub invariant-loop-age : goal.invariant-loop-age
invariant-loop-age l = list_all (has_age l.split) (take l.age-index l.ages) ≡ true
