use Rattle.std.proofs.Common.{◌≡◌, sym, ◌∙◌, false, true, None, rules}
use Rattle.dk_desk.specs.Outside.{Outside}
use Rattle.dk_top.specs.Command.{run as run_command}
use Rattle.dk_top.specs.Performing.{PerformsWork}
use Rattle.dk_top.specs.Compiling.{IsCompiledFrom}
use Rattle.dk_top.specs.Streams.{IsMachineOf, RunsMachine}
use Rattle.dk_top.specs.Meaning.{bytes_of}
use Rattle.dk_top.proofs.EndingLemmas.{at_error, ending_as}
use Rattle.dk_top.proofs.RunLemmas.{ok_apart, same_count, performs_on}
use Rattle.dk_top.proofs.WholeLemmas.{told_map}
use Rattle.dk_top.proofs.commands.running.RunWordsWork.perform.Goals as goal

pub returns-in_err-machine : goal.returns-in_err-machine
returns-in_err-machine g c =
    let w = c.args.self.now in
    let old : Outside = g.D.Desk.outside c.args.desk.now in
    let new : Outside = g.D.Desk.outside c.read_with.new.desk in
    at_error (λ e. PerformsWork (run_command w.program.now w.image.now w.out.now w.age) e old new) c.from_residual.result c.in_err-machine.field-0.0 c.from_residual.ensures.1 (record {
      taken = search rules;
      ends = search rules;
      asks = search rules;
      file = search rules;
      tells = search rules;
      fault = search rules;
      fault_count = search rules;
    })

pub run_streamed-requires-clause-machine : goal.run_streamed-requires-clause-machine
run_streamed-requires-clause-machine g c = record {
  compiled = (c.in_ok-machine.ensures.some.0, c.args.self.now.age, c.in_ok-machine.ensures.some.1.compiled);
  again = c.in_ok-machine.ensures.some.1.again;
}

pub run_rounds-requires-clause-machine : goal.run_rounds-requires-clause-machine
run_rounds-requires-clause-machine g c = record {
  compiled = (c.in_ok-machine.ensures.some.0, c.args.self.now.age, c.in_ok-machine.ensures.some.1.compiled);
  again = c.in_ok-machine.ensures.some.1.again;
}

pub run_streamed-requires-clause-one : goal.run_streamed-requires-clause-one
run_streamed-requires-clause-one g c = c.is_one_port.ensures.yes c.if-is_one_port.true

pub run_rounds-requires-clause-several : goal.run_rounds-requires-clause-several
run_rounds-requires-clause-several g c = λ p form one. let both : true ≡ false = sym (c.is_one_port.ensures.no p form one) ∙ c.if-is_one_port.false in absurd (let f : ⊥ = cc in f)

pub returns-then-is_one_port : goal.returns-then-is_one_port
returns-then-is_one_port g c =
    let w = c.args.self.now in
    let old : Outside = g.D.Desk.outside c.args.desk.now in
    let mid : Outside = g.D.Desk.outside c.read_with.new.desk in
    let new : Outside = g.D.Desk.outside c.run_streamed.new.desk in
    let m = c.in_ok-machine.machine in
    let e = c.in_ok-machine.ensures in
    ending_as (λ r. RunsMachine m w.image.now w.out.now r mid new) (λ r. PerformsWork (run_command w.program.now w.image.now w.out.now w.age) r old new) c.run_streamed.result
    (λ r h. performs_on c.one_at_age_law.ensures.apart c.one_at_age_law.ensures.accepted w.program.now w.image.now w.out.now w.age r old mid new m.compiled c.requires.fresh (told_map old.files (λ f. IsMachineOf (bytes_of f w.program.now) w.age m) (λ f. IsCompiledFrom (bytes_of f w.program.now) w.age false None m.compiled) (λ f h. h.compiled) e.made) (e.some.0, e.some.1.compiled) e.name e.only
    (same_count _ old.input_failures mid.input_failures (λ is. ok_apart _ _ is) e.cause) h)
    c.run_streamed.ensures

pub returns : goal.returns
returns g c =
    let w = c.args.self.now in
    let old : Outside = g.D.Desk.outside c.args.desk.now in
    let mid : Outside = g.D.Desk.outside c.read_with.new.desk in
    let new : Outside = g.D.Desk.outside c.run_rounds.new.desk in
    let m = c.in_ok-machine.machine in
    let e = c.in_ok-machine.ensures in
    ending_as (λ r. RunsMachine m w.image.now w.out.now r mid new) (λ r. PerformsWork (run_command w.program.now w.image.now w.out.now w.age) r old new) c.run_rounds.result
    (λ r h. performs_on c.one_at_age_law.ensures.apart c.one_at_age_law.ensures.accepted w.program.now w.image.now w.out.now w.age r old mid new m.compiled c.requires.fresh (told_map old.files (λ f. IsMachineOf (bytes_of f w.program.now) w.age m) (λ f. IsCompiledFrom (bytes_of f w.program.now) w.age false None m.compiled) (λ f h. h.compiled) e.made) (e.some.0, e.some.1.compiled) e.name e.only
    (same_count _ old.input_failures mid.input_failures (λ is. ok_apart _ _ is) e.cause) h)
    c.run_rounds.ensures
