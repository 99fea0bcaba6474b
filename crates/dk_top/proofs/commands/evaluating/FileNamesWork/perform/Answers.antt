use Rattle.std.proofs.Common.{◌≡◌, Some, subst, IfSome, rules}
use Rattle.dk_desk.specs.Outside.{Outside}
use Rattle.dk_endings.specs.declared.ending.Ending.TheVariants as ending
use Rattle.dk_top.specs.Command.{eval as eval_command}
use Rattle.dk_top.specs.Output.{output_file, eval_terms, OfPair}
use Rattle.dk_top.specs.Performing.{PerformsWork, EndsRight, HasStored}
use Rattle.dk_top.specs.Texts.{IsPrefix}
use Rattle.dk_top.proofs.CommandLemmas.{stored_told, read_pair}
use Rattle.dk_top.proofs.EndingLemmas.{at_error, at_fault}
use Rattle.dk_top.proofs.ReadLemmas.{read_good}
use Rattle.dk_top.proofs.commands.evaluating.FileNamesWork.perform.Goals as goal

pub returns-in_err-given : goal.returns-in_err-given
returns-in_err-given g c =
    let w = c.args.self.now in
    let old : Outside = g.D.Desk.outside c.args.desk.now in
    let new : Outside = g.D.Desk.outside c.read_given.new.desk in
    at_error (λ e. PerformsWork (eval_command w.program.now w.image.now w.out.now) e old new) c.from_residual.result c.in_err-given.field-0.0 c.from_residual.ensures.1 (record {
      taken = search rules;
      ends = search rules;
      asks = search rules;
      file = search rules;
      tells = search rules;
      fault = search rules;
      fault_count = search rules;
    })

pub returns-in_err-write_file : goal.returns-in_err-write_file
returns-in_err-write_file g c =
    let outside = g.D.Desk.outside in
    let w = c.args.self.now in
    let old : Outside = outside c.args.desk.now in
    let new : Outside = outside c.write_file.new.desk in
    let given = c.in_ok-given.given in
    let verdict : EndsRight (Some (eval_command w.program.now w.image.now w.out.now)) ending.WriteFault old = read_good _ eval_terms w.program.now w.image.now given.ir given.rounds.items c.in_ok-given.ensures.made in
    let output : HasStored (Some (eval_command w.program.now w.image.now w.out.now)) ending.WriteFault old new = λ opened.
    stored_told _ eval_terms w.program.now w.image.now _ c.in-Ok.output.items IsPrefix
    (read_pair _ w.program.now w.image.now given.ir given.rounds.items (λ source file. OfPair eval_terms source file (λ p images. c.in-Ok.output.items ≡ output_file p images)) c.in_ok-given.ensures.made c.in-Ok.ensures.output)
    (subst (λ bytes. IfSome new.file.bytes (λ written. IsPrefix written bytes)) c.deref.ensures.value (c.in_err-write_file.ensures.prefix opened)) in
    at_fault (λ e. PerformsWork (eval_command w.program.now w.image.now w.out.now) e old new) c.from_residual-in_err-write_file.result c.in_err-write_file.field-0.0 c.from_residual-in_err-write_file.ensures.1 c.in_err-write_file.ensures.fault (search (rules, verdict, output))

pub returns : goal.returns
returns g c =
    let outside = g.D.Desk.outside in
    let w = c.args.self.now in
    let old : Outside = outside c.args.desk.now in
    let new : Outside = outside c.write_file.new.desk in
    let given = c.in_ok-given.given in
    let verdict : EndsRight (Some (eval_command w.program.now w.image.now w.out.now)) ending.Done old = read_good _ eval_terms w.program.now w.image.now given.ir given.rounds.items c.in_ok-given.ensures.made in
    let output : HasStored (Some (eval_command w.program.now w.image.now w.out.now)) ending.Done old new = λ opened.
    stored_told _ eval_terms w.program.now w.image.now _ c.in-Ok.output.items (λ written whole. written ≡ whole)
    (read_pair _ w.program.now w.image.now given.ir given.rounds.items (λ source file. OfPair eval_terms source file (λ p images. c.in-Ok.output.items ≡ output_file p images)) c.in_ok-given.ensures.made c.in-Ok.ensures.output)
    (subst (λ bytes. IfSome new.file.bytes (λ written. written ≡ bytes)) c.deref.ensures.value c.in_ok-write_file.ensures.whole) in
    search (rules, verdict, output)
