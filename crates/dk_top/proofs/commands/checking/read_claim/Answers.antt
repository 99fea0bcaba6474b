use Rattle.std.proofs.Common.{rules, ◌≤◌, length, ap, Err}
use Rattle.std.specs.Prelude.{⊤}
use Rattle.std.proofs.lemmas.Result.{IfOk-weaker}
use Rattle.dk_base.specs.declared.TheConstants.{MAX_SOURCE_BYTES, MAX_REPORT_BYTES}
use Rattle.source_fault.specs.declared.fault.SourceFault.TheVariants as source
use Rattle.dk_endings.specs.declared.ending.Ending.TheVariants as ending
use Rattle.dk_endings.specs.declared.ending.ReportFault.TheVariants as report
use Rattle.dk_compile.specs.Sources.{IsSourceFault}
use Rattle.dk_top.specs.Reports.{IsChecked, IsCheckAnswer}
use Rattle.dk_top.specs.Reading.{ReadsBoth}
use Rattle.dk_top.specs.Reporting.{HasProgram}
use Rattle.dk_top.proofs.LongLemmas.{short_source}
use Rattle.dk_top.proofs.ReportLemmas.{claim_ended, source_ended}
use Rattle.dk_top.proofs.WholeLemmas.{EndsSecond, lifted, both_refused, second_unread, both_judged}
use Rattle.dk_top.proofs.commands.checking.read_claim.Goals as goal

pub returns-in_err-front : goal.returns-in_err-front
returns-in_err-front g c =
    let outside = g.D.Desk.outside in
    let words = c.args.words.now in
    let text = c.deref.result.now in
    let e = c.in_err-front.field-0.0 in
    let within : length text ≤ MAX_SOURCE_BYTES = search rules in
    lifted (λ r. ReadsBoth words.program.now words.report.now HasProgram IsChecked (λ claim. ⊤) IsCheckAnswer r (outside c.args.desk.now) (outside c.read_text.new.desk)) c.from_residual-in_err-front.result e c.from_residual-in_err-front.ensures.1
    (both_refused words.program.now words.report.now HasProgram IsChecked (λ claim. ⊤) IsCheckAnswer MAX_SOURCE_BYTES (ending.Source source.TooLong) (outside c.args.desk.now) (outside c.read_text.new.desk) c.in_ok-text.text text c.deref.ensures.value c.in_ok-text.ensures
    c.requires.image e (λ file. source_ended text file e c.in_err-front.ensures.fault) (short_source (IsSourceFault text) text e (λ long. long) within (λ is. c.in_err-front.ensures.judged (ap Err is)) c.in_err-front.ensures.fault))

pub returns-in_err-report : goal.returns-in_err-report
returns-in_err-report g c =
    let outside = g.D.Desk.outside in
    let words = c.args.words.now in
    let text = c.deref.result.now in
    let has = c.in_ok-front.ensures.accepted in
    let law : EndsSecond MAX_REPORT_BYTES (ending.Rejected report.TooLong) text IsCheckAnswer = record {
      failed_read = λ file. tt;
      no_memory = λ file. tt;
      over = λ file more. record { program = has.program; accepted = has.accepted; fault_is = more };
      stops = tt;
      left = λ t file p i rest. (tt, rest);
    } in
    lifted (λ r. ReadsBoth words.program.now words.report.now HasProgram IsChecked (λ claim. ⊤) IsCheckAnswer r (outside c.args.desk.now) (outside c.read_whole.new.desk)) c.from_residual-in_err-report.result c.in_err-report.field-0.0 c.from_residual-in_err-report.ensures.1
    (second_unread words.program.now words.report.now HasProgram IsChecked (λ claim. ⊤) IsCheckAnswer MAX_SOURCE_BYTES (ending.Source source.TooLong) (outside c.args.desk.now) (outside c.read_text.new.desk) c.in_ok-text.text text c.deref.ensures.value c.in_ok-text.ensures
    (has.program, has.accepted) MAX_REPORT_BYTES (ending.Rejected report.TooLong) (outside c.read_whole.new.desk) law c.in_err-report.field-0.0 c.in_err-report.ensures)

pub returns : goal.returns
returns g c =
    let outside = g.D.Desk.outside in
    let words = c.args.words.now in
    let text = c.deref.result.now in
    let file = c.deref-2.result.now in
    let front = c.in_ok-front.front in
    let has = c.in_ok-front.ensures.accepted in
    both_judged words.program.now words.report.now HasProgram IsChecked (λ claim. ⊤) IsCheckAnswer MAX_SOURCE_BYTES (ending.Source source.TooLong) (outside c.args.desk.now) (outside c.read_text.new.desk) c.in_ok-text.text text c.deref.ensures.value c.in_ok-text.ensures
    (has.program, has.accepted) MAX_REPORT_BYTES (ending.Rejected report.TooLong) (outside c.read_whole.new.desk) c.in_ok-report.report file c.deref-2.ensures.value c.in_ok-report.ensures c.judged.result
    (IfOk-weaker c.judged.result _ (IsChecked text file) (λ claim holds. holds text has) c.judged.ensures.holds) (IfOk-weaker c.judged.result _ (λ claim. ⊤) (λ claim holds. tt) c.judged.ensures.holds)
    (claim_ended text file front.ir front.stencils has c.judged.result c.judged.ensures.judged c.judged.ensures.fault) c.judged.ensures.judged
