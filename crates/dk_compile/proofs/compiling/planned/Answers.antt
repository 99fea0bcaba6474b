use Rattle.std.proofs.Common.{refl}
use Rattle.std.proofs.lemmas.Result.{err_from_is_err_and}
use Rattle.dk_types.specs.Typed.{typing_of}
use Rattle.raster_delay.specs.Systems.{System}
use Rattle.dk_compile.specs.Limits.{HasSystem}
use Rattle.dk_compile.proofs.AtAge.{limit_fault}
use Rattle.dk_compile.proofs.compiling.planned.Goals as goal

pub returns-in_err-system-clause-fault : goal.returns-in_err-system-clause-fault
returns-in_err-system-clause-fault c =
    let p = err_from_is_err_and c.from_residual-in_err-system.result c.from_residual-in_err-system.ensures.1 in
    let front = c.in_ok-program.field-0 in
    let typing = typing_of front.program in
    let system : System = record { stencils = front.stencils; age = c.args.age } in
    let has : HasSystem c.args.text.now c.args.age typing front.ir system = record { front = c.in_ok-program.ensures.front; age_is = refl } in
    rw (p.1, p.2) (limit_fault c.args.text.now c.args.age typing front.ir system c.in_err-system.field-0.0 has c.in_err-system.ensures.fault)
