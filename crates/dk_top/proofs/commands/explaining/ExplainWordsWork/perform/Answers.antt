use Rattle.std.proofs.Common.{◌≡◌, Some, ap, subst, rules}
use Rattle.dk_desk.specs.Calls.{IsIfTold, grown}
use Rattle.dk_desk.specs.Outside.{Outside}
use Rattle.dk_endings.specs.declared.ending.Ending.TheVariants as ending
use Rattle.dk_top.specs.declared.commands.explaining.Judged.{Judged}
use Rattle.dk_top.specs.declared.commands.explaining.Judged.TheVariants.{Refused}
use Rattle.dk_top.specs.Command.{explain as explain_command}
use Rattle.dk_top.specs.Reading.{OfFile}
use Rattle.dk_top.specs.Refusals.{IsJudgedAs, LeavesJudged}
use Rattle.dk_top.specs.Performing.{PerformsWork, HasReported}
use Rattle.dk_top.specs.Texts.{ReportsFront}
use Rattle.dk_top.proofs.EndingLemmas.{at_fault}
use Rattle.dk_top.proofs.ExplainLemmas.{explained_front, explained_whole, explained_faulty}
use Rattle.dk_top.proofs.commands.explaining.ExplainWordsWork.perform.Goals as goal

pub returns-in_err-write_report : goal.returns-in_err-write_report
returns-in_err-write_report g c =
    let outside = g.D.Desk.outside in
    let name = c.args.self.now.program.now in
    let old : Outside = outside c.args.desk.now in
    let new : Outside = outside c.write_report.new.desk in
    let before : (outside c.read_judged.new.desk).report ≡ old.report = ap (λ (o : Outside). o.report) c.in_ok-refusal.ensures.only in
    let judged : OfFile old name (λ source. IsJudgedAs name source (Refused c.in-Refused.refusal)) = subst (λ (j : Judged). OfFile old name (λ source. IsJudgedAs name source j)) c.in-Refused.is c.in_ok-refusal.ensures.judged in
    let report : HasReported (Some (explain_command name)) ending.WriteFault old new =
    explained_front _ name c.in-Refused.refusal _ _ judged
    (subst (λ t. ReportsFront t old.report new.report) c.deref.ensures.value
    (subst (λ r. ReportsFront c.deref.result.now r new.report) before c.in_err-write_report.ensures.front)) in
    at_fault (λ e. PerformsWork (explain_command name) e old new) c.from_residual-in_err-write_report.result c.in_err-write_report.field-0.0 c.from_residual-in_err-write_report.ensures.1 c.in_err-write_report.ensures.fault (record {
      taken = search (rules, judged);
      ends = record {
        verdict = explained_faulty _ name c.in-Refused.refusal judged;
        read_fault = search (rules, judged);
        write_fault = search (rules, judged);
      };
      asks = search (rules, judged);
      file = search (rules, judged);
      tells = record {
        report = report;
        report_stays = search (rules, judged);
        notes = search (rules, judged);
        notes_stay = search (rules, judged);
      };
      fault = search (rules, judged);
      fault_count = search (rules, judged);
    })

pub returns : goal.returns
returns g c =
    let outside = g.D.Desk.outside in
    let name = c.args.self.now.program.now in
    let old : Outside = outside c.args.desk.now in
    let mid : Outside = outside c.read_judged.new.desk in
    let judged : OfFile old name (λ source. IsJudgedAs name source (Refused c.in-Refused.refusal)) = subst (λ (j : Judged). OfFile old name (λ source. IsJudgedAs name source j)) c.in-Refused.is c.in_ok-refusal.ensures.judged in
    let left : OfFile old name (λ source. LeavesJudged (Refused c.in-Refused.refusal) source mid.program) = subst (λ (j : Judged). OfFile old name (λ source. LeavesJudged j source mid.program)) c.in-Refused.is c.in_ok-refusal.ensures.left in
    let new : Outside = outside c.write_report.new.desk in
    let before : mid.report ≡ old.report = ap (λ (o : Outside). o.report) c.in_ok-refusal.ensures.only in
    record {
      taken = search (rules, judged, left);
      ends = search (rules, judged, left);
      asks = search (rules, judged, left);
      file = search (rules, judged, left);
      tells = record {
        report = explained_whole _ name c.in-Refused.refusal _ _ judged
            (subst (λ t. IsIfTold new.report (grown old.report t)) c.deref.ensures.value
            (subst (λ r. IsIfTold new.report (grown r c.deref.result.now)) before c.in_ok-write_report.ensures.whole));
        report_stays = search (rules, judged, left);
        notes = search (rules, judged, left);
        notes_stay = search (rules, judged, left);
      };
      fault = search (rules, judged, left);
      fault_count = search (rules, judged, left);
    }
