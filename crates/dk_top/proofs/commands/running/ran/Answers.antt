use Rattle.std.proofs.Common.{◌≡◌, ◌∙◌, ℕ, Bool, List, Option, None, Err, IfSome, ap, sym, subst, rules}
use Rattle.std.specs.Prelude.{Vec}
use Rattle.std.specs.declared.alloc.Global.{Global}
use Rattle.dk_types.specs.Typed.{Typing}
use Rattle.dk_compile.specs.Fronts.{IsForm}
use Rattle.dk_desk.specs.Outside.{Outside}
use Rattle.dk_endings.specs.declared.ending.Ending.{Ending}
use Rattle.dk_endings.specs.declared.ending.Ending.TheVariants as ending
use Rattle.pgm_rounds.specs.declared.round.Round.{Round}
use Rattle.dk_top.specs.Output.{output_file, run_terms, OfPair}
use Rattle.dk_top.specs.Compiling.{NotesRun}
use Rattle.dk_top.specs.Reading.{IsInputOf, IsImageEnding}
use Rattle.dk_top.specs.Streams.{ClocksFile}
use Rattle.dk_top.specs.Meaning.{bytes_of}
use Rattle.dk_top.proofs.LongLemmas.{judgement_stops}
use Rattle.dk_top.proofs.RunLemmas.{unfit_from, good_from, input_from}
use Rattle.dk_top.proofs.WholeLemmas.{lifted, unlimited, told_map, unread_stops, handed, quiet, read_count, judged_apart}
use Rattle.dk_top.proofs.commands.running.ran.Goals as goal

pub returns-in_err-file : goal.returns-in_err-file
returns-in_err-file g c =
    let old : Outside = g.D.Desk.outside c.args.desk.now in
    let new : Outside = g.D.Desk.outside c.read_whole.new.desk in
    let m = c.args.machine.now in
    let e : Ending = c.in_err-file.field-0.0 in
    let r = c.in_err-file.ensures in
    lifted {A = Vec ℕ Global} (λ r. ClocksFile m c.args.image.now r old new) c.from_residual.result e c.from_residual.ensures.1 (record {
      output = tt;
      notes = tt;
      fault = λ source age from. unfit_from c.one_at_age_law.ensures.accepted old.files c.args.image.now m.compiled e source age from (unlimited _ c.args.image.now old _ e m.compiled.ir r.unread);
      good = tt;
      stops = unread_stops _ ending.Memory c.args.image.now old _ e tt r.unread;
      name = search rules;
      only = search rules;
      cause = handed e old new r.cause;
    })

pub returns-in_err-rounds : goal.returns-in_err-rounds
returns-in_err-rounds g c =
    let old : Outside = g.D.Desk.outside c.args.desk.now in
    let new : Outside = g.D.Desk.outside c.read_whole.new.desk in
    let m = c.args.machine.now in
    let e : Ending = c.in_err-rounds.field-0.0 in
    lifted {A = Vec ℕ Global} (λ r. ClocksFile m c.args.image.now r old new) c.from_residual-in_err-rounds.result e c.from_residual-in_err-rounds.ensures.1 (record {
      output = tt;
      notes = tt;
      fault = λ source age from. unfit_from c.one_at_age_law.ensures.accepted old.files c.args.image.now m.compiled e source age from
          (told_map old.files (λ f. c.in_ok-file.file.items ≡ bytes_of f c.args.image.now) (λ f. (p : Typing) → IsForm p m.compiled.ir → IsImageEnding None p (bytes_of f c.args.image.now) e) (λ f same p form. subst (λ b. IsImageEnding None p b e) (c.deref.ensures.value ∙ same) (c.in_err-rounds.ensures.fault None tt p form)) c.in_ok-file.ensures.whole);
      good = tt;
      stops = judgement_stops e c.in_err-rounds.ensures.judged;
      name = search rules;
      only = search rules;
      cause = quiet {A = Vec ℕ Global} (Err e) old new (read_count c.in_ok-file.file old new c.in_ok-file.ensures.cause) (judged_apart {A = Vec ℕ Global} (Err e) c.in_err-rounds.ensures.judged);
    })

pub returns-in-Ok : goal.returns-in-Ok
returns-in-Ok g c =
    let m = c.args.machine.now in
    let old : Outside = g.D.Desk.outside c.args.desk.now in
    let new : Outside = g.D.Desk.outside c.clocked.new.desk in
    let before : (g.D.Desk.outside c.read_whole.new.desk).notes ≡ old.notes = ap (λ (o : Outside). o.notes) c.in_ok-file.ensures.only in
    let rounds : List Round = c.in_ok-rounds.rounds.items in
    let input : IfSome old.files (λ f. IsInputOf None m.compiled.ir (bytes_of f c.args.image.now) rounds) =
    told_map old.files (λ f. c.in_ok-file.file.items ≡ bytes_of f c.args.image.now) (λ f. IsInputOf None m.compiled.ir (bytes_of f c.args.image.now) rounds) (λ f same. subst (λ b. IsInputOf None m.compiled.ir b rounds) (c.deref.ensures.value ∙ same) (c.in_ok-rounds.ensures.input None tt)) c.in_ok-file.ensures.whole in
    record {
      output = λ source age from.
          input_from old.files c.args.image.now m.compiled rounds (λ file. OfPair (run_terms age) source file (λ p rounds. c.in-Ok.output.items ≡ output_file p rounds)) input
          (λ file is. c.in-Ok.ensures.output source file age from (subst (λ (rs : List Round). IsInputOf None m.compiled.ir file rs) (sym c.deref-2.ensures.value) is));
      notes = λ source age from.
          input_from old.files c.args.image.now m.compiled rounds (λ file. OfPair (run_terms age) source file (λ p rounds. NotesRun source age p rounds old.notes new.notes)) input
          (λ file is. subst (λ (b : Option (List (Bool × ℕ))). OfPair (run_terms age) source file (λ p rounds. NotesRun source age p rounds b new.notes)) before
          (c.in-Ok.ensures.notes source file age from (subst (λ (rs : List Round). IsInputOf None m.compiled.ir file rs) (sym c.deref-2.ensures.value) is)));
      fault = search rules;
      good = λ source age from. good_from c.one_at_age_law.ensures.accepted old.files c.args.image.now m.compiled rounds source age from input;
      stops = search rules;
      name = search rules;
      only = search rules;
      cause = search rules;
    }
