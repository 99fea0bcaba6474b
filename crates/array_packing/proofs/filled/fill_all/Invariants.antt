use Rattle.array_packing.specs.Packing.{AreFilledTo}
use Rattle.array_packing.proofs.filled.fill_all.Given as goal

abbrev pub invariant-loop-k : goal.invariant-loop-k
invariant-loop-k l = AreFilledTo l.slots l.reached
