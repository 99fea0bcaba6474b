use Rattle.std.proofs.Common.{◌≡◌, ◌<◌, ◌≤◌, ℕ}
use Rattle.flow_dual.specs.Tree.{IsSearch, IsClosedAt}
use Rattle.flow_dual.proofs.tree.widen.Given as goal

abbrev pub invariant-loop-i : goal.invariant-loop-i
invariant-loop-i l = record {
  root : l.tree.root ≡ l.initial.tree.root;
  search : IsSearch l.residual.constraints.now l.residual.potentials.now l.residual.flow.now l.tree.order.items l.tree.parent.items l.tree.root l.tree.reached;
  more : l.initial.tree.reached ≤ l.tree.reached;
  closed : l.tree.reached ≡ l.initial.tree.reached → (k : ℕ) → k < l.i → IsClosedAt l.residual.constraints.now l.residual.potentials.now l.residual.flow.now l.tree.order.items k;
}
