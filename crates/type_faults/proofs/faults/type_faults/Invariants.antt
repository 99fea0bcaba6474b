use Rattle.std.proofs.Common.{◌≤◌, ◌-◌, length}
use Rattle.type_faults.proofs.Ordered.{AreUpTo}
use Rattle.type_faults.proofs.faults.type_faults.Given as goal

abbrev pub invariant-faults : goal.invariant-faults
invariant-faults l = record {
  few : length l.found.items ≤ 20;
  upto : AreUpTo l.fn.first l.last l.found.items;
}

abbrev pub decreases-faults : goal.decreases-faults
decreases-faults l = 20 - length l.found.items
