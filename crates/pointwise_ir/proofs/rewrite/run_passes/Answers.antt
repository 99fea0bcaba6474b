use Rattle.std.proofs.Common.{arith, subst, refl}
use Rattle.pointwise_ir.proofs.Chains.{keeps_all, keeps_on, same_entry}
use Rattle.pointwise_ir.proofs.rewrite.run_passes.Goals as goal

pub loop-pass-init : goal.loop-pass-init
loop-pass-init g c = record {
  meaning = keeps_all c.args.ir;
  last = λ k p here at. absurd (omega (arith, here));
  none = λ _. refl;
}

pub loop-pass-preserved : goal.loop-pass-preserved
loop-pass-preserved g c =
    record {
      meaning = keeps_on _ _ _ c.loop-pass.invariant.meaning c.in_ok-done.ensures.meaning;
      last = λ k p here at.
          let same = same_entry c.args.passes.now c.loop-pass.pass-index k c.pass-item.result p (omega (arith, here)) c.loop-pass-test.true c.pass-item.is at in
          subst (λ q. (goal.Rewrite-dyn g (q.vtable, q.value)).gives q.value c.in_ok-done.done) same c.in_ok-done.ensures.gives;
      none = λ e. absurd (omega (arith, e));
    }

pub returns-clause-last : goal.returns-clause-last
returns-clause-last g c = λ k p here at. c.loop-pass.invariant.last k p (omega (arith, here, c.loop-pass-test.false, c.loop-pass.auto.pass-index-end)) at
