use Rattle.dk_types.specs.Typed.{typing_of}
use Rattle.dk_top.proofs.ReadLemmas.{every_form}
use Rattle.dk_top.proofs.commands.evaluating.form_of.Goals as goal

pub returns-in-Ok-clause-form : goal.returns-in-Ok-clause-form
returns-in-Ok-clause-form c =
    let program = c.in-Ok.program in
    let p = typing_of c.in-Ok.program.program in
    let planned = c.in-Ok.ensures.planned in
    record {
      program = p;
      accepted = c.one_at_age_law.ensures.accepted c.args.text.now 0 p program.ir program.system program.solution program.plan planned;
      form = planned.has.front.form;
      every = every_form c.one_source_law.ensures.program c.args.text.now 0 p program.ir program.system program.solution program.plan planned;
    }

pub returns-in-Err-clause-fault : goal.returns-in-Err-clause-fault
returns-in-Err-clause-fault c = c.ending_of.ensures.fault_at c.args.text.now 0 c.in-Err.ensures.fault
