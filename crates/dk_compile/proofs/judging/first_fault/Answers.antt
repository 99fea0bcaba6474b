use Rattle.dk_types.specs.Typed.{typing_of}
use Rattle.dk_compile.proofs.judging.first_fault.Goals as goal

pub returns-in-Ok : goal.returns-in-Ok
returns-in-Ok c =
    let program = c.in-Ok.field-0 in
    let p = typing_of program.program in
    let planned = c.in-Ok.ensures.planned in
    (p, c.one_at_age_law.ensures.accepted c.args.text.now 0 p program.ir program.system program.solution program.plan planned)
