use Rattle.wiring.specs.Moves.{IsSearch, weight, KeepsMarks}
use Rattle.wiring.proofs.order.finish.Given as goal

abbrev pub invariant-loop-search : goal.invariant-loop-search
invariant-loop-search l = record {
  search : IsSearch l.assigns l.search.marks.items l.search.path.items l.search.order.items;
  marks : KeepsMarks l.fn.search.marks.items l.search.marks.items;
}

abbrev pub decreases-loop-search : goal.decreases-loop-search
decreases-loop-search l = weight l.search
