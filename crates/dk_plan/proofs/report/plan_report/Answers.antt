use Rattle.std.proofs.Common.{subst}
use Rattle.buffer_plan.specs.Plans.{Plan, IsPlan}
use Rattle.dk_plan.proofs.Reporting.{report_text}
use Rattle.dk_plan.proofs.report.plan_report.Goals as goal

pub returns : goal.returns
returns c =
    let s = c.args.system.now in
    let x = c.args.solution.now in
    let solves = c.requires.solution in
    let planned = subst (λ (p : Plan). IsPlan p) c.requires.plan c.law-2.ensures in
    record {
      report = report_text c.args.ir.now s x c.args.plan.now c.in_ok-text.text.items c.requires.plan solves planned.within c.printed_meets_law.ensures
          (c.printed_holds_law.ensures c.args.ir.now s x.delays x.flow c.law.ensures solves.vector.causal solves.balanced solves.worth_is) c.in_ok-text.ensures;
    }
