use Rattle.std.proofs.Common.{◌≡◌, Some, ap, subst, rules}
use Rattle.dk_desk.specs.Calls.{IsIfTold, grown}
use Rattle.dk_desk.specs.Outside.{Outside}
use Rattle.dk_endings.specs.declared.ending.Ending.TheVariants as ending
use Rattle.dk_top.specs.Command.{nets as nets_command}
use Rattle.dk_top.specs.Performing.{PerformsWork, HasReported}
use Rattle.dk_top.specs.Texts.{ReportsFront}
use Rattle.dk_top.proofs.EndingLemmas.{at_fault}
use Rattle.dk_top.proofs.CompileLemmas.{block_low}
use Rattle.dk_top.proofs.ReportLemmas.{nets_whole, nets_front}
use Rattle.dk_top.proofs.commands.listing.NetsWordsWork.perform.Goals as goal

pub returns-in_err-write_report : goal.returns-in_err-write_report
returns-in_err-write_report g c =
    let outside = g.D.Desk.outside in
    let w = c.args.self.now in
    let old : Outside = outside c.args.desk.now in
    let new : Outside = outside c.write_report.new.desk in
    let before : (outside c.read_with.new.desk).report ≡ old.report = ap (λ (o : Outside). o.report) c.in_ok-lines.ensures.only in
    let report : HasReported (Some (nets_command w.program.now w.enable w.age w.block)) ending.WriteFault old new =
    nets_front _ w.program.now w.age w.enable w.block c.in_ok-lines.lines.items _ _ c.in_ok-lines.ensures.made
    (subst (λ t. ReportsFront t old.report new.report) c.deref.ensures.value
    (subst (λ r. ReportsFront c.deref.result.now r new.report) before c.in_err-write_report.ensures.front)) in
    at_fault (λ e. PerformsWork (nets_command w.program.now w.enable w.age w.block) e old new) c.from_residual-in_err-write_report.result c.in_err-write_report.field-0.0 c.from_residual-in_err-write_report.ensures.1 c.in_err-write_report.ensures.fault (record {
      taken = search rules;
      ends = record {
        verdict = search rules;
        read_fault = search rules;
        write_fault = search rules;
      };
      asks = record {
        asked = search rules;
        order = search rules;
        too_long = search rules;
        reads = search rules;
      };
      file = record {
        created = search rules;
        begun = search rules;
        written = search rules;
        output = search rules;
        files = search rules;
        files_stay = search rules;
        own = search rules;
      };
      tells = record {
        report = report;
        report_stays = search rules;
        notes = search rules;
        notes_stay = search rules;
      };
      fault = search rules;
      fault_count = search rules;
    })

pub returns : goal.returns
returns g c =
    let outside = g.D.Desk.outside in
    let w = c.args.self.now in
    let old : Outside = outside c.args.desk.now in
    let new : Outside = outside c.write_report.new.desk in
    let before : (outside c.read_with.new.desk).report ≡ old.report = ap (λ (o : Outside). o.report) c.in_ok-lines.ensures.only in
    let report : HasReported (Some (nets_command w.program.now w.enable w.age w.block)) ending.Done old new =
    nets_whole _ w.program.now w.age w.enable w.block c.in_ok-lines.lines.items _ _ c.in_ok-lines.ensures.made
    (subst (λ t. IsIfTold new.report (grown old.report t)) c.deref.ensures.value
    (subst (λ r. IsIfTold new.report (grown r c.deref.result.now)) before c.in_ok-write_report.ensures.whole)) in
    record {
      taken = search rules;
      ends = record {
        verdict = search rules;
        read_fault = search rules;
        write_fault = search rules;
      };
      asks = record {
        asked = search rules;
        order = search rules;
        too_long = search rules;
        reads = search rules;
      };
      file = record {
        created = search rules;
        begun = search rules;
        written = search rules;
        output = search rules;
        files = search rules;
        files_stay = search rules;
        own = search rules;
      };
      tells = record {
        report = report;
        report_stays = search rules;
        notes = search rules;
        notes_stay = search rules;
      };
      fault = search rules;
      fault_count = search rules;
    }

pub read_with-requires-clause-ranges : goal.read_with-requires-clause-ranges
read_with-requires-clause-ranges g c = (c.requires.ranges.0, block_low c.args.self.now.block c.requires.ranges.1)
