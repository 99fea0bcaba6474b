use Rattle.std.proofs.Common.{sym, subst, refl, ◌∙◌, List, []}
use Rattle.expected_tokens.specs.declared.class.TokenClass.{TokenClass}
use Rattle.expected_tokens.specs.Expected.{AreThose, none, CanFollow}
use Rattle.expected_tokens.proofs.Those.{one_more}
use Rattle.expected_tokens.proofs.expected.those_of.Goals as goal

pub loop-class-init : goal.loop-class-init
loop-class-init c = record {
  same = refl;
  those = subst (λ (x : List TokenClass). AreThose (CanFollow c.args.tokens.now.items) [] x) (sym c.new-found.ensures.items) none;
}

pub loop-class-preserved : goal.loop-class-preserved
loop-class-preserved c = record {
  same = c.in_ok-add_class.ensures.same ∙ c.loop-class.invariant.same;
  those = one_more c.loop-class.tokens.items c.args.tokens.now.items c.loop-class.class-index _ c.args.classes.now c.loop-class.found.items c.add_class.new.found.items
      c.loop-class.invariant.same c.loop-class-test.true c.loop-class.invariant.those c.in_ok-add_class.ensures.grows;
}
