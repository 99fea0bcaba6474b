use Rattle.std.proofs.lemmas.Result.{err_from_is_err_and}
use Rattle.dk_types.specs.Typed.{typing_of}
use Rattle.dk_compile.specs.Fronts.{IsFront}
use Rattle.dk_compile.proofs.Counts.{accepted_of, stencil_fault}
use Rattle.dk_compile.proofs.reading.front.Goals as goal

pub returns-in_err-stencils-clause-fault : goal.returns-in_err-stencils-clause-fault
returns-in_err-stencils-clause-fault c =
    let p = err_from_is_err_and c.from_residual-in_err-stencils.result c.from_residual-in_err-stencils.ensures.1 in
    let formed = c.in_ok-program.field-0 in
    let is = c.in_ok-program.ensures in
    rw (p.1, p.2) (stencil_fault c.args.text.now (typing_of formed.program) formed.ir is.text is.within is.form c.in_err-stencils.field-0.0 c.in_err-stencils.ensures.fault)

pub returns-clause-front : goal.returns-clause-front
returns-clause-front c =
    let is = c.in_ok-program.ensures in
    record {
      program = is.text;
      within = is.within;
      form = is.form;
      folded = is.folded;
      bodies = is.bodies;
      stencils = c.in_ok-stencils.ensures.stencils;
      few = c.law.ensures.reads.most_reads;
    }

pub returns-clause-accepted : goal.returns-clause-accepted
returns-clause-accepted c =
    let formed = c.in_ok-program.field-0 in
    let is = c.in_ok-program.ensures in
    let front : IsFront c.args.text.now (typing_of formed.program) formed.ir c.in_ok-stencils.stencils = record {
      program = is.text;
      within = is.within;
      form = is.form;
      folded = is.folded;
      bodies = is.bodies;
      stencils = c.in_ok-stencils.ensures.stencils;
      few = c.law.ensures.reads.most_reads;
    } in
    accepted_of c.args.text.now (typing_of formed.program) formed.ir c.in_ok-stencils.stencils front
