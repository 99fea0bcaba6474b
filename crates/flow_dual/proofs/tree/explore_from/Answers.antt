use Rattle.std.proofs.Common.{arith, ◌∙◌}
use Rattle.flow_dual.proofs.tree.explore_from.Goals as goal
use Rattle.flow_dual.proofs.tree.explore_from.Goals.{then-i-residual+then-last-before+then-last-found, then-i-residual+else-last-before, else-i-residual}

pub loop-k-preserved : goal.loop-k-preserved
loop-k-preserved c =
    let was = c.loop-k.invariant in
    elim c.if-i-residual.branch [
      | then-i-residual+then-last-before+then-last-found w ↦
          let told = w.cross.ensures in
          rw w.tree-is (record {
            root = told.keeps.root ∙ was.root;
            search = record {
              orders = told.keeps.orders ∙ was.search.orders;
              parents = told.keeps.parents ∙ was.search.parents;
              tree = told.tree;
              tight = told.tight;
              counted = told.count;
            };
            more = omega (arith, told.keeps.more, was.more);
          })
      | then-i-residual+else-last-before w ↦
          let told = w.cross.ensures in
          rw w.tree-is (record {
            root = told.keeps.root ∙ was.root;
            search = record {
              orders = told.keeps.orders ∙ was.search.orders;
              parents = told.keeps.parents ∙ was.search.parents;
              tree = told.tree;
              tight = told.tight;
              counted = told.count;
            };
            more = omega (arith, told.keeps.more, was.more);
          })
      | else-i-residual w ↦ rw w.tree-is was
    ]
