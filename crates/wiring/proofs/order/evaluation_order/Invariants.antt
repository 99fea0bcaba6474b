use Rattle.std.proofs.Common.{◌≡◌, ◌≢◌, ℕ, ◌<◌, [], Some}
use Rattle.std.specs.Prelude.{slice_get}
use Rattle.wiring.specs.declared.order.Mark.TheVariants.{New}
use Rattle.wiring.specs.Moves.{IsSearch}
use Rattle.wiring.proofs.order.evaluation_order.Given as goal

abbrev pub invariant-loop-start : goal.invariant-loop-start
invariant-loop-start l = record {
  search : IsSearch l.assigns l.search.marks.items l.search.path.items l.search.order.items;
  path : l.search.path.items ≡ [];
  marks : (k : ℕ) → k < l.start → slice_get l.search.marks.items k ≢ Some New;
}
