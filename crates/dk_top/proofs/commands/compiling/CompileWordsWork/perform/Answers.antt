use Rattle.std.proofs.Common.{◌≡◌, Some, subst, IfSome, rules}
use Rattle.dk_desk.specs.Outside.{Outside}
use Rattle.dk_endings.specs.declared.ending.Ending.TheVariants as ending
use Rattle.dk_top.specs.Command.{compile as compile_command}
use Rattle.dk_top.specs.Performing.{PerformsWork, HasStored}
use Rattle.dk_top.specs.Texts.{IsPrefix}
use Rattle.dk_top.proofs.EndingLemmas.{at_error, at_fault}
use Rattle.dk_top.proofs.CompileLemmas.{text_stored, block_low}
use Rattle.dk_top.proofs.commands.compiling.CompileWordsWork.perform.Goals as goal

pub returns-in_err-text : goal.returns-in_err-text
returns-in_err-text g c =
    let w = c.args.self.now in
    let old : Outside = g.D.Desk.outside c.args.desk.now in
    let new : Outside = g.D.Desk.outside c.read_with.new.desk in
    at_error (λ e. PerformsWork (compile_command w.program.now w.out.now w.enable w.age w.block) e old new) c.from_residual.result c.in_err-text.field-0.0 c.from_residual.ensures.1 (record {
      taken = search rules;
      ends = record {
        verdict = search rules;
        read_fault = search rules;
        write_fault = search rules;
      };
      asks = record {
        asked = search rules;
        order = search rules;
        too_long = search rules;
        reads = search rules;
      };
      file = record {
        created = search rules;
        begun = search rules;
        written = search rules;
        output = search rules;
        files = search rules;
        files_stay = search rules;
        own = search rules;
      };
      tells = record {
        report = search rules;
        report_stays = search rules;
        notes = search rules;
        notes_stay = search rules;
      };
      fault = search rules;
      fault_count = search rules;
    })

pub returns-in_err-write_file : goal.returns-in_err-write_file
returns-in_err-write_file g c =
    let w = c.args.self.now in
    let old : Outside = g.D.Desk.outside c.args.desk.now in
    let new : Outside = g.D.Desk.outside c.write_file.new.desk in
    let output : HasStored (Some (compile_command w.program.now w.out.now w.enable w.age w.block)) ending.WriteFault old new = λ opened.
    text_stored _ w.program.now w.age w.enable w.block c.in_ok-text.text.items _ ending.WriteFault c.in_ok-text.ensures.made
    (subst (λ bytes. IfSome new.file.bytes (λ written. IsPrefix written bytes)) c.deref.ensures.value (c.in_err-write_file.ensures.prefix opened)) in
    at_fault (λ e. PerformsWork (compile_command w.program.now w.out.now w.enable w.age w.block) e old new) c.from_residual-in_err-write_file.result c.in_err-write_file.field-0.0 c.from_residual-in_err-write_file.ensures.1 c.in_err-write_file.ensures.fault (record {
      taken = search rules;
      ends = record {
        verdict = search rules;
        read_fault = search rules;
        write_fault = search rules;
      };
      asks = record {
        asked = search rules;
        order = search rules;
        too_long = search rules;
        reads = search rules;
      };
      file = record {
        created = search rules;
        begun = search rules;
        written = search rules;
        output = output;
        files = search rules;
        files_stay = search rules;
        own = search rules;
      };
      tells = record {
        report = search rules;
        report_stays = search rules;
        notes = search rules;
        notes_stay = search rules;
      };
      fault = search rules;
      fault_count = search rules;
    })

pub returns : goal.returns
returns g c =
    let w = c.args.self.now in
    let old : Outside = g.D.Desk.outside c.args.desk.now in
    let new : Outside = g.D.Desk.outside c.write_file.new.desk in
    let output : HasStored (Some (compile_command w.program.now w.out.now w.enable w.age w.block)) ending.Done old new = λ opened.
    text_stored _ w.program.now w.age w.enable w.block c.in_ok-text.text.items _ ending.Done c.in_ok-text.ensures.made
    (subst (λ bytes. IfSome new.file.bytes (λ written. written ≡ bytes)) c.deref.ensures.value c.in_ok-write_file.ensures.whole) in
    record {
      taken = search rules;
      ends = record {
        verdict = search rules;
        read_fault = search rules;
        write_fault = search rules;
      };
      asks = record {
        asked = search rules;
        order = search rules;
        too_long = search rules;
        reads = search rules;
      };
      file = record {
        created = search rules;
        begun = search rules;
        written = search rules;
        output = output;
        files = search rules;
        files_stay = search rules;
        own = search rules;
      };
      tells = record {
        report = search rules;
        report_stays = search rules;
        notes = search rules;
        notes_stay = search rules;
      };
      fault = search rules;
      fault_count = search rules;
    }

pub read_with-requires-clause-ranges : goal.read_with-requires-clause-ranges
read_with-requires-clause-ranges g c = (c.requires.ranges.0, block_low c.args.self.now.block c.requires.ranges.1)
