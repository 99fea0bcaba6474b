use Rattle.std.proofs.Common.{◌≡◌, ◌≢◌, ◌∙◌, Some, ap, subst, sym, IfSome, rules}
use Rattle.dk_base.specs.FrameSizes.{size_of}
use Rattle.dk_desk.specs.declared.Stage.TheVariants.{Unasked}
use Rattle.dk_desk.specs.Calls.{IsIfTold}
use Rattle.dk_desk.specs.Outside.{Outside, Input}
use Rattle.stimulus.specs.declared.drive.Drive.{Drive}
use Rattle.dk_endings.specs.declared.ending.Ending.{Ending}
use Rattle.dk_endings.specs.declared.ending.Ending.TheVariants as ending
use Rattle.dk_top.specs.Command.{sim as sim_command}
use Rattle.dk_top.specs.Simulation.{drive_of, IsSimAnswer, NotesSim}
use Rattle.dk_top.specs.Performing.{PerformsWork, EndsRight, LeavesRestOf, HasStored, HasNoted, AsksAfter}
use Rattle.dk_top.specs.State.{AsksWhereModule, FilesStay, IsReported, IsNoted}
use Rattle.dk_top.specs.Meaning.{bytes_of}
use Rattle.dk_top.specs.Texts.{IsPrefix}
use Rattle.dk_top.proofs.EndingLemmas.{at_error, at_fault}
use Rattle.dk_top.proofs.SimReads.{for_clocks, of_input, stored_sim, sim_notes}
use Rattle.dk_top.proofs.LongLemmas.{no_text, no_images, both_left}
use Rattle.dk_top.proofs.CommandLemmas.{order_stays, on_all}
use Rattle.dk_top.proofs.Performed.{same_files}
use Rattle.dk_top.proofs.TraceLemmas.{stay_others}
use Rattle.dk_top.proofs.commands.simulating.SimWordsWork.perform.Goals as goal

pub returns-in_err-given : goal.returns-in_err-given
returns-in_err-given g c =
    let w = c.args.self.now in
    let old : Outside = g.D.Desk.outside c.args.desk.now in
    let new : Outside = g.D.Desk.outside c.read_all.new.desk in
    let e : Ending = c.in_err-given.field-0.0 in
    let verdict : EndsRight (Some (sim_command w.verilog.now w.clocks w.image.now w.out.now w.fill w.hold)) e old = for_clocks _ w.verilog.now w.image.now w.clocks w.fill w.hold e c.in_err-given.ensures.fault in
    at_error (λ e. PerformsWork (sim_command w.verilog.now w.clocks w.image.now w.out.now w.fill w.hold) e old new) c.from_residual.result c.in_err-given.field-0.0 c.from_residual.ensures.1 (record {
      taken = search rules;
      ends = record {
        verdict = verdict;
        read_fault = search rules;
        write_fault = search rules;
      };
      asks = search rules;
      file = search rules;
      tells = search rules;
      fault = search rules;
      fault_count = search rules;
    })

pub returns-in_err-output : goal.returns-in_err-output
returns-in_err-output g c =
    let w = c.args.self.now in
    let given = c.in_ok-given.given in
    let d : Drive = c.drive_for-drive.result in
    let same : d ≡ drive_of w.clocks w.fill w.hold = c.drive_for-drive.ensures.is in
    let old : Outside = g.D.Desk.outside c.args.desk.now in
    let new : Outside = g.D.Desk.outside c.pictures.new.desk in
    let e : Ending = c.in_err-output.field-0.0 in
    let verdict : EndsRight (Some (sim_command w.verilog.now w.clocks w.image.now w.out.now w.fill w.hold)) e old =
    of_input _ w.verilog.now w.image.now d (drive_of w.clocks w.fill w.hold) given.module (size_of given.input.size) given.input.rounds.items (λ x t i. IsSimAnswer x t i e) same c.in_ok-given.ensures.made c.in_err-output.ensures.fault in
    let too_long : LeavesRestOf (Some (sim_command w.verilog.now w.clocks w.image.now w.out.now w.fill w.hold)) e old new =
    both_left _ w.verilog.now w.image.now _ _ e (no_text _ w.verilog.now _ e c.in_err-output.ensures.no_text) (no_images _ w.image.now _ e c.in_err-output.ensures.no_images) in
    let read : Outside = g.D.Desk.outside c.read_all.new.desk in
    let drawn : new ≡ record read { notes = new.notes } = c.in_err-output.ensures.only in
    let unasked : new.file.stage ≡ Unasked = ap (λ (o : Outside). o.file.stage) drawn ∙ (ap (λ (o : Outside). o.file.stage) c.in_ok-given.ensures.only ∙ c.requires.fresh.file) in
    let files : new.files ≡ old.files = ap (λ (o : Outside). o.files) drawn ∙ ap (λ (o : Outside). o.files) c.in_ok-given.ensures.only in
    let report : new.report ≡ old.report = ap (λ (o : Outside). o.report) drawn ∙ ap (λ (o : Outside). o.report) c.in_ok-given.ensures.only in
    at_error (λ e. PerformsWork (sim_command w.verilog.now w.clocks w.image.now w.out.now w.fill w.hold) e old new) c.from_residual-in_err-output.result c.in_err-output.field-0.0 c.from_residual-in_err-output.ensures.1 (record {
      taken = search rules;
      ends = record {
        verdict = verdict;
        read_fault = search rules;
        write_fault = search rules;
      };
      asks = record {
        asked = record {
          program = subst (λ (i : Input). i.stage ≢ Unasked → IsIfTold i.name (Some w.verilog.now)) (sym (ap (λ (o : Outside). o.program) drawn)) c.in_ok-given.ensures.program_name;
          image = subst (λ (i : Input). i.stage ≢ Unasked → IsIfTold i.name (Some w.image.now)) (sym (ap (λ (o : Outside). o.image) drawn)) c.in_ok-given.ensures.image_name;
          file = λ asked. absurd (asked unasked);
        };
        order = order_stays (Some (sim_command w.verilog.now w.clocks w.image.now w.out.now w.fill w.hold)) old.files read new (ap (λ (o : Outside). o.image) drawn) c.in_ok-given.ensures.order;
        too_long = too_long;
        reads = search rules;
      };
      file = record {
        created = search rules;
        begun = search rules;
        written = search rules;
        output = search rules;
        files = subst (λ fs. FilesStay (Some (sim_command w.verilog.now w.clocks w.image.now w.out.now w.fill w.hold)) old.files fs) (sym files) (same_files (Some (sim_command w.verilog.now w.clocks w.image.now w.out.now w.fill w.hold)) old.files);
        files_stay = search rules;
        own = search rules;
      };
      tells = record {
        report = on_all (sim_command w.verilog.now w.clocks w.image.now w.out.now w.fill w.hold) old.files (λ f. IsReported e (sim_command w.verilog.now w.clocks w.image.now w.out.now w.fill w.hold) f new.file.bytes old.report new.report) (λ f. report);
        report_stays = search rules;
        notes = on_all (sim_command w.verilog.now w.clocks w.image.now w.out.now w.fill w.hold) old.files (λ f. IsNoted (sim_command w.verilog.now w.clocks w.image.now w.out.now w.fill w.hold) e f old.notes new.notes) (λ f. sim_notes w.verilog.now w.clocks w.image.now w.out.now w.fill w.hold e c.in_err-output.ensures.stops f old.notes new.notes);
        notes_stay = search rules;
      };
      fault = search rules;
      fault_count = search rules;
    })

pub returns-in_err-write_file : goal.returns-in_err-write_file
returns-in_err-write_file g c =
    let w = c.args.self.now in
    let given = c.in_ok-given.given in
    let d : Drive = c.drive_for-drive.result in
    let same : d ≡ drive_of w.clocks w.fill w.hold = c.drive_for-drive.ensures.is in
    let old : Outside = g.D.Desk.outside c.args.desk.now in
    let new : Outside = g.D.Desk.outside c.write_file.new.desk in
    let verdict : EndsRight (Some (sim_command w.verilog.now w.clocks w.image.now w.out.now w.fill w.hold)) ending.WriteFault old =
    of_input _ w.verilog.now w.image.now d (drive_of w.clocks w.fill w.hold) given.module (size_of given.input.size) given.input.rounds.items (λ x t i. IsSimAnswer x t i ending.WriteFault) same c.in_ok-given.ensures.made
    (λ t i is. (c.in_ok-output.output.items, c.in_ok-output.ensures.file t i is)) in
    let output : HasStored (Some (sim_command w.verilog.now w.clocks w.image.now w.out.now w.fill w.hold)) ending.WriteFault old new = λ opened.
    stored_sim _ w.verilog.now w.image.now d (drive_of w.clocks w.fill w.hold) given.module (size_of given.input.size) given.input.rounds.items _ c.in_ok-output.output.items IsPrefix same c.in_ok-given.ensures.made c.in_ok-output.ensures.only_file
    (subst (λ bytes. IfSome new.file.bytes (λ written. IsPrefix written bytes)) c.deref.ensures.value (c.in_err-write_file.ensures.prefix opened)) in
    let read : Outside = g.D.Desk.outside c.read_all.new.desk in
    let drawn : Outside = g.D.Desk.outside c.pictures.new.desk in
    let written : new ≡ record drawn { file = new.file; files = new.files; output_failures = new.output_failures } = c.in_err-write_file.ensures.only in
    let drew : drawn ≡ record read { notes = drawn.notes } = c.in_ok-output.ensures.only in
    let files : drawn.files ≡ old.files = ap (λ (o : Outside). o.files) drew ∙ ap (λ (o : Outside). o.files) c.in_ok-given.ensures.only in
    let report : new.report ≡ old.report = ap (λ (o : Outside). o.report) written ∙ (ap (λ (o : Outside). o.report) drew ∙ ap (λ (o : Outside). o.report) c.in_ok-given.ensures.only) in
    at_fault (λ e. PerformsWork (sim_command w.verilog.now w.clocks w.image.now w.out.now w.fill w.hold) e old new) c.from_residual-in_err-write_file.result c.in_err-write_file.field-0.0 c.from_residual-in_err-write_file.ensures.1 c.in_err-write_file.ensures.fault (record {
      taken = search rules;
      ends = record {
        verdict = verdict;
        read_fault = search rules;
        write_fault = search rules;
      };
      asks = record {
        asked = record {
          program = subst (λ (i : Input). i.stage ≢ Unasked → IsIfTold i.name (Some w.verilog.now)) (sym (ap (λ (o : Outside). o.program) written ∙ ap (λ (o : Outside). o.program) drew)) c.in_ok-given.ensures.program_name;
          image = subst (λ (i : Input). i.stage ≢ Unasked → IsIfTold i.name (Some w.image.now)) (sym (ap (λ (o : Outside). o.image) written ∙ ap (λ (o : Outside). o.image) drew)) c.in_ok-given.ensures.image_name;
          file = λ asked. c.in_err-write_file.ensures.name;
        };
        order = search rules;
        too_long = search rules;
        reads = search rules;
      };
      file = record {
        created = search rules;
        begun = search rules;
        written = search rules;
        output = output;
        files = stay_others w.out.now old.files drawn.files new.files files c.in_err-write_file.ensures.files;
        files_stay = λ closed. c.in_err-write_file.ensures.files_stay closed ∙ files;
        own = search rules;
      };
      tells = record {
        report = on_all (sim_command w.verilog.now w.clocks w.image.now w.out.now w.fill w.hold) old.files (λ f. IsReported ending.WriteFault (sim_command w.verilog.now w.clocks w.image.now w.out.now w.fill w.hold) f new.file.bytes old.report new.report) (λ f. report);
        report_stays = search rules;
        notes = search rules;
        notes_stay = search rules;
      };
      fault = search rules;
      fault_count = search rules;
    })

pub returns : goal.returns
returns g c =
    let outside = g.D.Desk.outside in
    let w = c.args.self.now in
    let given = c.in_ok-given.given in
    let d : Drive = c.drive_for-drive.result in
    let same : d ≡ drive_of w.clocks w.fill w.hold = c.drive_for-drive.ensures.is in
    let old : Outside = outside c.args.desk.now in
    let read : Outside = outside c.read_all.new.desk in
    let drawn : Outside = outside c.pictures.new.desk in
    let new : Outside = outside c.write_file.new.desk in
    let verdict : EndsRight (Some (sim_command w.verilog.now w.clocks w.image.now w.out.now w.fill w.hold)) ending.Done old =
    of_input _ w.verilog.now w.image.now d (drive_of w.clocks w.fill w.hold) given.module (size_of given.input.size) given.input.rounds.items (λ x t i. IsSimAnswer x t i ending.Done) same c.in_ok-given.ensures.made
    (λ t i is. (c.in_ok-output.output.items, c.in_ok-output.ensures.file t i is)) in
    let output : HasStored (Some (sim_command w.verilog.now w.clocks w.image.now w.out.now w.fill w.hold)) ending.Done old new = λ opened.
    stored_sim _ w.verilog.now w.image.now d (drive_of w.clocks w.fill w.hold) given.module (size_of given.input.size) given.input.rounds.items _ c.in_ok-output.output.items (λ written whole. written ≡ whole) same c.in_ok-given.ensures.made c.in_ok-output.ensures.only_file
    (subst (λ bytes. IfSome new.file.bytes (λ written. written ≡ bytes)) c.deref.ensures.value c.in_ok-write_file.ensures.whole) in
    let before : read.notes ≡ old.notes = ap (λ (o : Outside). o.notes) c.in_ok-given.ensures.only in
    let after : new.notes ≡ drawn.notes = ap (λ (o : Outside). o.notes) c.in_ok-write_file.ensures.only in
    let notes : HasNoted (Some (sim_command w.verilog.now w.clocks w.image.now w.out.now w.fill w.hold)) ending.Done old new =
    of_input _ w.verilog.now w.image.now d (drive_of w.clocks w.fill w.hold) given.module (size_of given.input.size) given.input.rounds.items (λ x t i. NotesSim x t i old.notes new.notes) same c.in_ok-given.ensures.made
    (λ t i is. rw (after, sym before) (c.in_ok-output.ensures.notes t i is)) in
    let same_image : drawn.image ≡ read.image = ap (λ (o : Outside). o.image) c.in_ok-output.ensures.only in
    let last_image : new.image ≡ drawn.image = ap (λ (o : Outside). o.image) c.in_ok-write_file.ensures.only in
    let drawn_order = subst (λ (image : Input). IfSome old.files (λ files. AsksWhereModule w.hold (bytes_of files w.verilog.now) (record read { image = image }))) (sym same_image) c.in_ok-given.ensures.order in
    let order : AsksAfter (Some (sim_command w.verilog.now w.clocks w.image.now w.out.now w.fill w.hold)) old new =
    subst (λ (image : Input). IfSome old.files (λ files. AsksWhereModule w.hold (bytes_of files w.verilog.now) (record read { image = image }))) (sym last_image) drawn_order in
    let written : new ≡ record drawn { file = new.file; files = new.files; output_failures = new.output_failures } = c.in_ok-write_file.ensures.only in
    let drew : drawn ≡ record read { notes = drawn.notes } = c.in_ok-output.ensures.only in
    let files : drawn.files ≡ old.files = ap (λ (o : Outside). o.files) drew ∙ ap (λ (o : Outside). o.files) c.in_ok-given.ensures.only in
    let report : new.report ≡ old.report = ap (λ (o : Outside). o.report) written ∙ (ap (λ (o : Outside). o.report) drew ∙ ap (λ (o : Outside). o.report) c.in_ok-given.ensures.only) in
    record {
      taken = search rules;
      ends = record {
        verdict = verdict;
        read_fault = search rules;
        write_fault = search rules;
      };
      asks = record {
        asked = record {
          program = subst (λ (i : Input). i.stage ≢ Unasked → IsIfTold i.name (Some w.verilog.now)) (sym (ap (λ (o : Outside). o.program) written ∙ ap (λ (o : Outside). o.program) drew)) c.in_ok-given.ensures.program_name;
          image = subst (λ (i : Input). i.stage ≢ Unasked → IsIfTold i.name (Some w.image.now)) (sym (ap (λ (o : Outside). o.image) written ∙ ap (λ (o : Outside). o.image) drew)) c.in_ok-given.ensures.image_name;
          file = λ asked. c.in_ok-write_file.ensures.name;
        };
        order = order;
        too_long = search rules;
        reads = search rules;
      };
      file = record {
        created = search rules;
        begun = search rules;
        written = search rules;
        output = output;
        files = stay_others w.out.now old.files drawn.files new.files files c.in_ok-write_file.ensures.files;
        files_stay = search rules;
        own = search rules;
      };
      tells = record {
        report = on_all (sim_command w.verilog.now w.clocks w.image.now w.out.now w.fill w.hold) old.files (λ f. IsReported ending.Done (sim_command w.verilog.now w.clocks w.image.now w.out.now w.fill w.hold) f new.file.bytes old.report new.report) (λ f. report);
        report_stays = search rules;
        notes = notes;
        notes_stay = search rules;
      };
      fault = search rules;
      fault_count = search rules;
    }
