use Rattle.std.proofs.Common.{List, subst, arith}
use Rattle.wiring.specs.declared.order.Visit.{Visit}
use Rattle.wiring.specs.Moves.{IsSearch}
use Rattle.wiring.proofs.Ordered.{search_ends}
use Rattle.wiring.proofs.order.evaluation_order.Goals as goal

pub returns-clause-ok : goal.returns-clause-ok
returns-clause-ok c =
    search_ends c.args.assigns.now c.loop-start.search.marks.items c.loop-start.search.order.items
    (subst (λ (l : List Visit). IsSearch c.args.assigns.now c.loop-start.search.marks.items l c.loop-start.search.order.items) c.loop-start.invariant.path c.loop-start.invariant.search)
    (λ k l. c.loop-start.invariant.marks k (omega (arith, l, c.loop-start-test.false)))
