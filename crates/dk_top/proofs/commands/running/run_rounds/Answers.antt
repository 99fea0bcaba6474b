use Rattle.std.proofs.Common.{◌≡◌, ℕ, true, false, List, Err, IfSome, refl, sym, ap, subst}
use Rattle.dk_desk.specs.Outside.{Outside}
use Rattle.dk_endings.specs.declared.ending.Ending.TheVariants as ending
use Rattle.dk_top.specs.Streams.{RunsMachine}
use Rattle.dk_top.specs.Texts.{IsPrefix}
use Rattle.dk_top.proofs.EndingLemmas.{at_error, at_fault}
use Rattle.dk_top.proofs.RunLemmas.{cause_as, ok_apart, rounds_stop, rounds_done, rounds_write}
use Rattle.dk_top.proofs.commands.running.run_rounds.Goals as goal

pub returns-in_err-output : goal.returns-in_err-output
returns-in_err-output g c =
    let m = c.args.machine.now in
    let old : Outside = g.D.Desk.outside c.args.desk.now in
    let new : Outside = g.D.Desk.outside c.ran.new.desk in
    let e = c.in_err-output.ensures in
    at_error (λ e. RunsMachine m c.args.image.now c.args.out.now e old new) c.from_residual.result c.in_err-output.field-0.0 c.from_residual.ensures.1
    (λ source age from.
    rounds_stop c.one_source_law.ensures.program c.one_at_age_law.ensures.accepted source age m.compiled from c.requires.several c.args.image.now c.args.out.now old new c.requires.awaits.file e.only e.name c.in_err-output.field-0.0 e.stops (e.fault source age from)
    (cause_as _ (c.in_err-output.field-0.0 ≡ ending.ReadFault) old.input_failures new.input_failures old.input_failures new.input_failures refl refl (λ is. cc) (λ is. ap Err is) e.cause))

pub returns-in_err-write_file : goal.returns-in_err-write_file
returns-in_err-write_file g c =
    let m = c.args.machine.now in
    let old : Outside = g.D.Desk.outside c.args.desk.now in
    let mid : Outside = g.D.Desk.outside c.ran.new.desk in
    let new : Outside = g.D.Desk.outside c.write_file.new.desk in
    let e = c.in_ok-output.ensures in
    let w = c.in_err-write_file.ensures in
    at_fault (λ e. RunsMachine m c.args.image.now c.args.out.now e old new) c.from_residual-in_err-write_file.result c.in_err-write_file.field-0.0 c.from_residual-in_err-write_file.ensures.1 w.fault
    (λ source age from.
    rounds_write c.one_source_law.ensures.program c.one_at_age_law.ensures.accepted source age m.compiled from c.requires.several c.args.image.now c.args.out.now c.in_ok-output.output.items old mid new e.only e.name (e.good source age from) (e.output source age from) w.only w.name w.files w.files_stay w.own
    (λ there. subst (λ (bytes : List ℕ). IfSome new.file.bytes (λ written. IsPrefix written bytes)) c.deref.ensures.value (w.prefix there))
    (cause_as _ (ending.WriteFault ≡ ending.ReadFault) old.input_failures mid.input_failures old.input_failures new.input_failures refl (sym (ap (λ (o : Outside). o.input_failures) w.only)) (λ is. absurd (ok_apart _ _ is)) (λ is. absurd (let f : ⊥ = cc in f)) e.cause)
    (cause_as (true ≡ true) (ending.WriteFault ≡ ending.WriteFault) mid.output_failures new.output_failures old.output_failures new.output_failures (ap (λ (o : Outside). o.output_failures) e.only) refl (λ is. refl) (λ is. refl) w.cause))

pub returns : goal.returns
returns g c = λ source age from.
    let m = c.args.machine.now in
    let old : Outside = g.D.Desk.outside c.args.desk.now in
    let mid : Outside = g.D.Desk.outside c.ran.new.desk in
    let new : Outside = g.D.Desk.outside c.write_file.new.desk in
    let e = c.in_ok-output.ensures in
    let w = c.in_ok-write_file.ensures in
    rounds_done c.one_source_law.ensures.program c.one_at_age_law.ensures.accepted source age m.compiled from c.requires.several c.args.image.now c.args.out.now c.in_ok-output.output.items old mid new e.only e.name (e.good source age from) (e.output source age from) w.only w.name w.files w.files_stay w.own
    w.opened (subst (λ (bytes : List ℕ). IfSome new.file.bytes (λ written. written ≡ bytes)) c.deref.ensures.value w.whole) (e.notes source age from)
    (cause_as _ (ending.Done ≡ ending.ReadFault) old.input_failures mid.input_failures old.input_failures new.input_failures refl (sym (ap (λ (o : Outside). o.input_failures) w.only)) (λ is. absurd (ok_apart _ _ is)) (λ is. absurd (let f : ⊥ = cc in f)) e.cause)
    (cause_as (false ≡ true) (ending.Done ≡ ending.WriteFault) mid.output_failures new.output_failures old.output_failures new.output_failures (ap (λ (o : Outside). o.output_failures) e.only) refl (λ is. absurd (let f : ⊥ = cc in f)) (λ is. absurd (let f : ⊥ = cc in f)) w.cause)
