use Rattle.std.proofs.Common.{refl, subst, sym}
use Rattle.report_text.specs.Reports.{parts_of}
use Rattle.plan_check.specs.First.{IsFirst}
use Rattle.plan_check.specs.Rules.{Breaks}
use Rattle.plan_check.specs.Holding.{FlowHolds}
use Rattle.plan_check.specs.Judging.{number_rules}
use Rattle.plan_check.proofs.Firsts.{images_keep, latencies_keep, none_wrong, wrong_flow, of_rules}
use Rattle.plan_check.proofs.Least.{are_least}
use Rattle.plan_check.proofs.checking.check.Goals as goal

pub returns-then-flow_holds-clause-judged : goal.returns-then-flow_holds-clause-judged
returns-then-flow_holds-clause-judged c =
    let s = c.args.system.now in
    let r = parts_of c.args.report.now in
    let t = c.in-None-faulty_sum.ensures in
    none_wrong s r (images_keep s r t.images) (latencies_keep s r (images_keep s r t.images) t.latencies) (t.clocks, (t.bits, tt)) c.in-None-faulty_constraint.ensures
    (subst (λ xs. FlowHolds s xs r.bits) c.deref-2.ensures.value (c.if-flow_holds.ensures.0 refl))

pub returns-then-flow_holds-clause-least : goal.returns-then-flow_holds-clause-least
returns-then-flow_holds-clause-least c = λ _.
    let s = c.args.system.now in
    let r = parts_of c.args.report.now in
    let t = c.in-None-faulty_sum.ensures in
    are_least s c.law.ensures r c.requires.images (of_rules s r
    (none_wrong s r (images_keep s r t.images) (latencies_keep s r (images_keep s r t.images) t.latencies) (t.clocks, (t.bits, tt)) c.in-None-faulty_constraint.ensures
    (subst (λ xs. FlowHolds s xs r.bits) c.deref-2.ensures.value (c.if-flow_holds.ensures.0 refl))))

pub returns-else-flow_holds-clause-judged : goal.returns-else-flow_holds-clause-judged
returns-else-flow_holds-clause-judged c =
    let s = c.args.system.now in
    let r = parts_of c.args.report.now in
    let t = c.in-None-faulty_sum.ensures in
    subst (IsFirst (Breaks (number_rules s r))) (sym c.last_line.ensures)
    (wrong_flow s r (images_keep s r t.images) (latencies_keep s r (images_keep s r t.images) t.latencies) (t.clocks, (t.bits, tt)) c.in-None-faulty_constraint.ensures
    (λ h. let e : ⊥ = cc (c.if-flow_holds.ensures.1 (subst (λ xs. FlowHolds s xs r.bits) (sym c.deref-2.ensures.value) h)) in e))
