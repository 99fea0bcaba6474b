use Rattle.std.proofs.Common.{◌≡◌, arith, ◌∙◌, subst, sym, inl, inr}
use Rattle.std.proofs.lemmas.Bool.{cases_lt}
use Rattle.flow_dual.specs.Tree.{IsClosedAt}
use Rattle.flow_dual.proofs.tree.widen.Goals as goal

pub loop-i-preserved : goal.loop-i-preserved
loop-i-preserved c =
    let residual = c.args.residual.now in
    let was = c.loop-i.invariant in
    let told = c.cross.ensures in
    let first = c.args.tree.now.reached in
    let before = c.loop-i.tree.reached in
    let after = c.cross.new.tree.reached in
    record {
      root = told.keeps.root ∙ was.root;
      search = record {
        orders = told.keeps.orders ∙ was.search.orders;
        parents = told.keeps.parents ∙ was.search.parents;
        tree = told.tree;
        tight = told.tight;
        counted = told.count;
      };
      more = omega (arith, told.keeps.more, was.more);
      closed = λ unchanged k below.
          let same : after ≡ before = omega (arith, told.keeps.more, was.more, unchanged) in
          let still : before ≡ first = omega (arith, told.keeps.more, was.more, unchanged) in
          elim (cases_lt k c.loop-i.i) [
            | inl earlier ↦ subst (λ order. IsClosedAt residual.constraints.now residual.potentials.now residual.flow.now order k)
                (sym (told.keeps.same same)) (was.closed still k earlier)
            | inr later ↦ let here : k ≡ c.loop-i.i = omega arith in
                subst (λ j. IsClosedAt residual.constraints.now residual.potentials.now residual.flow.now c.cross.new.tree.order.items j) (sym here) (told.closed same)
          ];
    }
