use Rattle.dk_types.specs.Typed.{typing_of}
use Rattle.std.proofs.lemmas.Result.{err_from_is_err_and}
use Rattle.dk_compile.proofs.widening.widen.Goals as goal

pub returns-in_err-fits_phases-clause-fault : goal.returns-in_err-fits_phases-clause-fault
returns-in_err-fits_phases-clause-fault c =
    let p = err_from_is_err_and c.from_residual-in_err-fits_phases.result c.from_residual-in_err-fits_phases.ensures.1 in
    rw (p.1, p.2) (typing_of c.in_ok-old.old.program, c.in_ok-old.ensures.program, c.in_err-fits_phases.ensures.fault)

pub returns-clause-fault : goal.returns-clause-fault
returns-clause-fault c = (typing_of c.in_ok-old.old.program, c.in_ok-old.ensures.program, c.in_ok-fits_phases.ensures.able)

pub returns-in-Some-clause-able : goal.returns-in-Some-clause-able
returns-in-Some-clause-able c = (typing_of c.in_ok-old.old.program, c.in_ok-old.ensures.program, c.in_ok-fits_phases.ensures.able)
