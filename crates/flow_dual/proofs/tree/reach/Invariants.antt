use Rattle.std.proofs.Common.{◌≡◌, ◌-◌, length}
use Rattle.flow_dual.specs.Tree.{IsSearch}
use Rattle.flow_dual.proofs.tree.reach.Given as goal

abbrev pub invariant-loop-tree : goal.invariant-loop-tree
invariant-loop-tree l = record {
  root : l.tree.root ≡ l.root;
  search : IsSearch l.network.constraints.now l.potentials l.flow l.tree.order.items l.tree.parent.items l.tree.root l.tree.reached;
}

abbrev pub decreases-loop-tree : goal.decreases-loop-tree
decreases-loop-tree l = length l.potentials - l.tree.reached
