use Rattle.std.proofs.Common.{◌≡◌, Some, ap, subst, ◌∙◌, rules}
use Rattle.dk_desk.specs.Calls.{IsIfTold, grown}
use Rattle.dk_desk.specs.Outside.{Outside}
use Rattle.dk_endings.specs.Lines.{holds_line}
use Rattle.dk_endings.specs.declared.ending.Ending.TheVariants as ending
use Rattle.dk_top.specs.Command.{check as check_command}
use Rattle.dk_top.specs.Performing.{PerformsWork, HasReported}
use Rattle.dk_top.specs.Texts.{ReportsFront}
use Rattle.dk_top.proofs.EndingLemmas.{at_error, at_fault}
use Rattle.dk_top.proofs.ReportLemmas.{claim_whole, claim_front}
use Rattle.dk_top.proofs.CommandLemmas.{order_stays}
use Rattle.dk_top.proofs.commands.checking.CheckWordsWork.perform.Goals as goal

pub returns-in_err-claim : goal.returns-in_err-claim
returns-in_err-claim g c =
    let w = c.args.self.now in
    let old : Outside = g.D.Desk.outside c.args.desk.now in
    let new : Outside = g.D.Desk.outside c.read_claim.new.desk in
    at_error (λ e. PerformsWork (check_command w.program.now w.report.now) e old new) c.from_residual.result c.in_err-claim.field-0.0 c.from_residual.ensures.1 (record {
      taken = search rules;
      ends = record {
        verdict = search rules;
        read_fault = search rules;
        write_fault = search rules;
      };
      asks = record {
        asked = search rules;
        order = search rules;
        too_long = search rules;
        reads = search rules;
      };
      file = record {
        created = search rules;
        begun = search rules;
        written = search rules;
        output = search rules;
        files = search rules;
        files_stay = search rules;
        own = search rules;
      };
      tells = record {
        report = search rules;
        report_stays = search rules;
        notes = search rules;
        notes_stay = search rules;
      };
      fault = search rules;
      fault_count = search rules;
    })

pub returns-in_err-write_report : goal.returns-in_err-write_report
returns-in_err-write_report g c =
    let outside = g.D.Desk.outside in
    let w = c.args.self.now in
    let old : Outside = outside c.args.desk.now in
    let new : Outside = outside c.write_report.new.desk in
    let before : (outside c.read_claim.new.desk).report ≡ old.report = ap (λ (o : Outside). o.report) c.in_ok-claim.ensures.only in
    let line : c.as_bytes.result.now ≡ holds_line c.in_ok-claim.claim.bits c.in_ok-claim.claim.latency = c.as_bytes.ensures.value ∙ (c.deref.ensures.0 ∙ c.holds_line.ensures) in
    let report : HasReported (Some (check_command w.program.now w.report.now)) ending.WriteFault old new =
    claim_front _ w.program.now w.report.now c.in_ok-claim.claim c.as_bytes.result.now _ _ c.in_ok-claim.ensures.made line
    (subst (λ r. ReportsFront c.as_bytes.result.now r new.report) before c.in_err-write_report.ensures.front) in
    at_fault (λ e. PerformsWork (check_command w.program.now w.report.now) e old new) c.from_residual-in_err-write_report.result c.in_err-write_report.field-0.0 c.from_residual-in_err-write_report.ensures.1 c.in_err-write_report.ensures.fault (record {
      taken = search rules;
      ends = record {
        verdict = search rules;
        read_fault = search rules;
        write_fault = search rules;
      };
      asks = record {
        asked = search rules;
        order = order_stays (Some (check_command w.program.now w.report.now)) old.files (outside c.read_claim.new.desk) new (ap (λ (o : Outside). o.image) c.write_report.ensures.only) c.in_ok-claim.ensures.order;
        too_long = search rules;
        reads = search rules;
      };
      file = record {
        created = search rules;
        begun = search rules;
        written = search rules;
        output = search rules;
        files = search rules;
        files_stay = search rules;
        own = search rules;
      };
      tells = record {
        report = report;
        report_stays = search rules;
        notes = search rules;
        notes_stay = search rules;
      };
      fault = search rules;
      fault_count = search rules;
    })

pub returns : goal.returns
returns g c =
    let outside = g.D.Desk.outside in
    let w = c.args.self.now in
    let old : Outside = outside c.args.desk.now in
    let new : Outside = outside c.write_report.new.desk in
    let before : (outside c.read_claim.new.desk).report ≡ old.report = ap (λ (o : Outside). o.report) c.in_ok-claim.ensures.only in
    let line : c.as_bytes.result.now ≡ holds_line c.in_ok-claim.claim.bits c.in_ok-claim.claim.latency = c.as_bytes.ensures.value ∙ (c.deref.ensures.0 ∙ c.holds_line.ensures) in
    let report : HasReported (Some (check_command w.program.now w.report.now)) ending.Done old new =
    claim_whole _ w.program.now w.report.now c.in_ok-claim.claim c.as_bytes.result.now _ _ c.in_ok-claim.ensures.made line
    (subst (λ r. IsIfTold new.report (grown r c.as_bytes.result.now)) before c.in_ok-write_report.ensures.whole) in
    record {
      taken = search rules;
      ends = record {
        verdict = search rules;
        read_fault = search rules;
        write_fault = search rules;
      };
      asks = record {
        asked = search rules;
        order = order_stays (Some (check_command w.program.now w.report.now)) old.files (outside c.read_claim.new.desk) new (ap (λ (o : Outside). o.image) c.write_report.ensures.only) c.in_ok-claim.ensures.order;
        too_long = search rules;
        reads = search rules;
      };
      file = record {
        created = search rules;
        begun = search rules;
        written = search rules;
        output = search rules;
        files = search rules;
        files_stay = search rules;
        own = search rules;
      };
      tells = record {
        report = report;
        report_stays = search rules;
        notes = search rules;
        notes_stay = search rules;
      };
      fault = search rules;
      fault_count = search rules;
    }
