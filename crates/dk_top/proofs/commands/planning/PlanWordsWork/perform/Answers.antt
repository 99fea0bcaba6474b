use Rattle.std.proofs.Common.{◌≡◌, Some, ap, subst, rules}
use Rattle.dk_desk.specs.Calls.{IsIfTold, grown}
use Rattle.dk_desk.specs.Outside.{Outside}
use Rattle.dk_endings.specs.declared.ending.Ending.TheVariants as ending
use Rattle.dk_top.specs.Command.{plan as plan_command}
use Rattle.dk_top.specs.Performing.{PerformsWork, HasReported}
use Rattle.dk_top.proofs.EndingLemmas.{at_fault}
use Rattle.dk_top.proofs.ReportLemmas.{plan_whole}
use Rattle.dk_top.proofs.commands.planning.PlanWordsWork.perform.Goals as goal

pub returns-in_err-write_report : goal.returns-in_err-write_report
returns-in_err-write_report g c =
    let outside = g.D.Desk.outside in
    let w = c.args.self.now in
    let old : Outside = outside c.args.desk.now in
    let new : Outside = outside c.write_report.new.desk in
    let before : (outside c.read_with.new.desk).report ≡ old.report = ap (λ (o : Outside). o.report) c.in_ok-report.ensures.only in
    at_fault (λ e. PerformsWork (plan_command w.program.now w.age) e old new) c.from_residual-in_err-write_report.result c.in_err-write_report.field-0.0 c.from_residual-in_err-write_report.ensures.1 c.in_err-write_report.ensures.fault (search rules)

pub returns : goal.returns
returns g c =
    let outside = g.D.Desk.outside in
    let w = c.args.self.now in
    let old : Outside = outside c.args.desk.now in
    let new : Outside = outside c.write_report.new.desk in
    let before : (outside c.read_with.new.desk).report ≡ old.report = ap (λ (o : Outside). o.report) c.in_ok-report.ensures.only in
    let report : HasReported (Some (plan_command w.program.now w.age)) ending.Done old new =
    plan_whole _ w.program.now w.age c.in_ok-report.report.items _ _ c.in_ok-report.ensures.made
    (subst (λ t. IsIfTold new.report (grown old.report t)) c.deref.ensures.value
    (subst (λ r. IsIfTold new.report (grown r c.deref.result.now)) before c.in_ok-write_report.ensures.whole)) in
    search (rules, report)
