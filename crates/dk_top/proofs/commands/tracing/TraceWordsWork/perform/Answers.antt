use Rattle.std.proofs.Common.{◌≡◌, ◌≢◌, ◌∙◌, ap, sym, subst, Some, rules}
use Rattle.dk_base.specs.FrameSizes.{size_of}
use Rattle.dk_desk.specs.declared.Stage.TheVariants.{Unasked}
use Rattle.dk_desk.specs.Outside.{Input, Outside}
use Rattle.dk_desk.specs.Calls.{IsIfTold}
use Rattle.dk_endings.specs.declared.ending.Ending.{Ending}
use Rattle.stimulus.specs.declared.drive.Drive.{Drive}
use Rattle.dk_top.specs.Command.{trace as trace_command}
use Rattle.dk_top.specs.Performing.{PerformsWork, EndsRight, LeavesRestOf, CreatesLast, HasCreated, HasStored, AllStay}
use Rattle.dk_top.specs.Simulating.{LeavesTrace}
use Rattle.dk_top.specs.State.{AsksOnly, FilesStay, IsReported, IsNoted}
use Rattle.dk_top.specs.Tracing.{trace_drive, IsTraceAnswer}
use Rattle.dk_top.proofs.EndingLemmas.{at_error, ending_as}
use Rattle.dk_top.proofs.SimReads.{for_trace, of_input}
use Rattle.dk_top.proofs.TraceLemmas.{stored_trace, stay_others, unread_begun, driven_begun}
use Rattle.dk_top.proofs.LongLemmas.{no_text, no_images, both_left}
use Rattle.dk_top.proofs.CommandLemmas.{order_stays, on_all}
use Rattle.dk_top.proofs.commands.tracing.TraceWordsWork.perform.Goals as goal

pub returns-in_err-given : goal.returns-in_err-given
returns-in_err-given g c =
    let w = c.args.self.now in
    let old : Outside = g.D.Desk.outside c.args.desk.now in
    let new : Outside = g.D.Desk.outside c.read_all.new.desk in
    let e : Ending = c.in_err-given.field-0.0 in
    let verdict : EndsRight (Some (trace_command w.verilog.now w.clocks w.image.now w.vcd.now)) e old = for_trace _ w.verilog.now w.image.now w.clocks e c.in_err-given.ensures.fault in
    let begun : HasCreated (Some (trace_command w.verilog.now w.clocks w.image.now w.vcd.now)) e old new = unread_begun _ w.verilog.now w.image.now w.vcd.now w.clocks e _ c.in_err-given.ensures.fault in
    at_error (λ e. PerformsWork (trace_command w.verilog.now w.clocks w.image.now w.vcd.now) e old new) c.from_residual.result c.in_err-given.field-0.0 c.from_residual.ensures.1 (record {
      taken = search rules;
      ends = record {
        verdict = verdict;
        read_fault = search rules;
        write_fault = search rules;
      };
      asks = search rules;
      file = record {
        created = search rules;
        begun = begun;
        written = search rules;
        output = search rules;
        files = search rules;
        files_stay = search rules;
        own = search rules;
      };
      tells = search rules;
      fault = search rules;
      fault_count = search rules;
    })

pub returns : goal.returns
returns g c =
    let w = c.args.self.now in
    let given = c.in_ok-given.given in
    let d : Drive = c.drive_for-drive.result in
    let same : d ≡ trace_drive w.clocks = c.drive_for-drive.ensures.is in
    let old : Outside = g.D.Desk.outside c.args.desk.now in
    let mid : Outside = g.D.Desk.outside c.read_all.new.desk in
    let new : Outside = g.D.Desk.outside c.traced.new.desk in
    ending_as (λ e. LeavesTrace d given w.vcd.now e mid new) (λ e. PerformsWork (trace_command w.verilog.now w.clocks w.image.now w.vcd.now) e old new) c.traced.result
    (λ e t.
    let verdict : EndsRight (Some (trace_command w.verilog.now w.clocks w.image.now w.vcd.now)) e old =
    of_input _ w.verilog.now w.image.now d (trace_drive w.clocks) given.module (size_of given.input.size) given.input.rounds.items (λ x t i. IsTraceAnswer x t i e) same c.in_ok-given.ensures.made t.verdict in
    let asked : AsksOnly (Some (trace_command w.verilog.now w.clocks w.image.now w.vcd.now)) new = record {
      program = subst (λ (i : Input). i.stage ≢ Unasked → IsIfTold i.name (Some w.verilog.now)) (sym (ap (λ (o : Outside). o.program) t.only)) c.in_ok-given.ensures.program_name;
      image = subst (λ (i : Input). i.stage ≢ Unasked → IsIfTold i.name (Some w.image.now)) (sym (ap (λ (o : Outside). o.image) t.only)) c.in_ok-given.ensures.image_name;
      file = t.name;
    } in
    let created : CreatesLast (Some (trace_command w.verilog.now w.clocks w.image.now w.vcd.now)) e new = t.created w.verilog.now w.image.now w.vcd.now w.clocks in
    let begun : HasCreated (Some (trace_command w.verilog.now w.clocks w.image.now w.vcd.now)) e old new = driven_begun _ w.verilog.now w.image.now w.vcd.now w.clocks e _ t.begun in
    let output : HasStored (Some (trace_command w.verilog.now w.clocks w.image.now w.vcd.now)) e old new = λ opened.
    stored_trace _ w.verilog.now w.image.now d (trace_drive w.clocks) given.module (size_of given.input.size) given.input.rounds.items _ e same c.in_ok-given.ensures.made (t.output opened) in
    let files : FilesStay (Some (trace_command w.verilog.now w.clocks w.image.now w.vcd.now)) old.files new.files = stay_others w.vcd.now _ _ _ (ap (λ (o : Outside). o.files) c.in_ok-given.ensures.only) t.files in
    let files_stay : AllStay old new = λ closed. t.files_stay closed ∙ ap (λ (o : Outside). o.files) c.in_ok-given.ensures.only in
    let too_long : LeavesRestOf (Some (trace_command w.verilog.now w.clocks w.image.now w.vcd.now)) e old new =
    both_left _ w.verilog.now w.image.now _ _ e (no_text _ w.verilog.now _ e t.no_text) (no_images _ w.image.now _ e t.no_images) in
    record {
      taken = search (rules, t);
      ends = record {
        verdict = verdict;
        read_fault = search (rules, t);
        write_fault = search (rules, t);
      };
      asks = record {
        asked = asked;
        order = order_stays (Some (trace_command w.verilog.now w.clocks w.image.now w.vcd.now)) old.files mid new (ap (λ (o : Outside). o.image) t.only) c.in_ok-given.ensures.order;
        too_long = too_long;
        reads = search (rules, t);
      };
      file = record {
        created = created;
        begun = begun;
        written = search (rules, t);
        output = output;
        files = files;
        files_stay = files_stay;
        own = search (rules, t);
      };
      tells = record {
        report = on_all (trace_command w.verilog.now w.clocks w.image.now w.vcd.now) old.files (λ f. IsReported e (trace_command w.verilog.now w.clocks w.image.now w.vcd.now) f new.file.bytes old.report new.report) (λ f. ap (λ (o : Outside). o.report) t.only ∙ ap (λ (o : Outside). o.report) c.in_ok-given.ensures.only);
        report_stays = search (rules, t);
        notes = on_all (trace_command w.verilog.now w.clocks w.image.now w.vcd.now) old.files (λ f. IsNoted (trace_command w.verilog.now w.clocks w.image.now w.vcd.now) e f old.notes new.notes) (λ f. ap (λ (o : Outside). o.notes) t.only ∙ ap (λ (o : Outside). o.notes) c.in_ok-given.ensures.only);
        notes_stay = search (rules, t);
      };
      fault = search (rules, t);
      fault_count = search (rules, t);
    })
    c.traced.ensures
