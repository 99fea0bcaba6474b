use Rattle.batch_rows.specs.Seen.{IsOrderedUpTo}
use Rattle.batch_rows.proofs.ordered.orders.Given as goal

abbrev pub invariant-loop-k : goal.invariant-loop-k
invariant-loop-k l = IsOrderedUpTo l.seen l.k l.code
