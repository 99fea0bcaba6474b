use Rattle.std.proofs.lemmas.Result.{err_from_is_err_and}
use Rattle.dk_base.specs.Types.{IsPort}
use Rattle.dk_types.specs.Faults.{InputFault}
use Rattle.dk_types.proofs.Places as I
use Rattle.dk_types.proofs.items.input.Goals as goal

pub returns-then-before-ge-MAX_INPUTS : goal.returns-then-before-ge-MAX_INPUTS
returns-then-before-ge-MAX_INPUTS c = λ is done e. I.told_ninth_input c.args.scope.now is done c.args.item.now c.args.before c.fault.result c.requires e c.fault.ensures c.if-before-ge-MAX_INPUTS.true

pub returns-in-Some : goal.returns-in-Some
returns-in-Some c = λ is done e.
    I.told_again_input c.args.scope.now is done c.args.item.now c.args.before c.fault-in-Some.result c.requires e c.fault-in-Some.ensures c.if-before-ge-MAX_INPUTS.false c.as_bytes.result.now _ _ c.as_bytes.ensures c.in-Some.ensures.image

pub returns-then-not-is_port : goal.returns-then-not-is_port
returns-then-not-is_port c = λ is done e.
    I.told_input_type c.args.scope.now is done c.args.item.now c.args.before c.fault-then-not-is_port.result c.requires e c.fault-then-not-is_port.ensures c.if-before-ge-MAX_INPUTS.false c.as_bytes.result.now c.as_bytes.ensures c.in_default.ensures
    (I.refused c.is_port.result (IsPort c.args.item.now.ty.ty) c.is_port.ensures c.if-not-is_port.true)

pub returns-in_err-add : goal.returns-in_err-add
returns-in_err-add c = λ is done e.
    let p = err_from_is_err_and c.from_residual-in_err-add.result c.from_residual-in_err-add.ensures.1 in
    rw (p.1, p.2) (I.told_memory (InputFault is done c.args.item.now) c.in_err-add.field-0.0 c.in_err-add.ensures)
