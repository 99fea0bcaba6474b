use Rattle.std.proofs.Common.{length}
use Rattle.dk_parser.proofs.Keeping.{Going}
use Rattle.dk_parser.proofs.items.items.Given as goal

abbrev pub invariant-items : goal.invariant-items
invariant-items l = Going l.fn.tokens l.lead l.parts l.rest

abbrev pub decreases-items : goal.decreases-items
decreases-items l = length l.rest
