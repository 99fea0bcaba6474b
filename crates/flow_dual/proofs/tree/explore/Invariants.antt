use Rattle.std.proofs.Common.{◌≡◌, ◌≤◌}
use Rattle.flow_dual.specs.Tree.{IsSearch}
use Rattle.flow_dual.proofs.tree.explore.Given as goal

abbrev pub invariant-loop-next : goal.invariant-loop-next
invariant-loop-next l = record {
  root : l.tree.root ≡ l.initial.tree.root;
  search : IsSearch l.residual.constraints.now l.residual.potentials.now l.residual.flow.now l.tree.order.items l.tree.parent.items l.tree.root l.tree.reached;
  more : l.initial.tree.reached ≤ l.tree.reached;
}
