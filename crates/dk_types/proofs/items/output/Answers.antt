use Rattle.dk_base.specs.Types.{IsPort}
use Rattle.dk_types.proofs.Places as I
use Rattle.dk_types.proofs.items.output.Goals as goal

pub returns-then-before-ge-MAX_OUTPUTS : goal.returns-then-before-ge-MAX_OUTPUTS
returns-then-before-ge-MAX_OUTPUTS c = λ done. I.told_ninth_output c.args.scope.now c.args.before.now done c.args.item.now c.fault.result c.fault.ensures c.if-before-ge-MAX_OUTPUTS.true

pub returns-in-Some : goal.returns-in-Some
returns-in-Some c = λ done.
    I.told_again_output c.args.scope.now c.args.before.now done c.args.item.now c.fault-in-Some.result c.fault-in-Some.ensures c.if-before-ge-MAX_OUTPUTS.false c.as_bytes.result.now c.in-Some.field-0 c.as_bytes.ensures c.in-Some.ensures

pub returns-in_default-find : goal.returns-in_default-find
returns-in_default-find c = λ done.
    I.told_unknown_output c.args.scope.now c.args.before.now done c.args.item.now c.fault-in_default-find.result c.fault-in_default-find.ensures c.if-before-ge-MAX_OUTPUTS.false
    c.as_bytes.result.now c.as_bytes-2.result.now c.as_bytes.ensures c.in_default.ensures c.as_bytes-2.ensures c.in_default-find.ensures

pub returns-then-not-is_port : goal.returns-then-not-is_port
returns-then-not-is_port c = λ done.
    I.told_output_type c.args.scope.now c.args.before.now done c.args.item.now c.fault-then-not-is_port.result c.fault-then-not-is_port.ensures c.if-before-ge-MAX_OUTPUTS.false
    c.as_bytes.result.now c.as_bytes-2.result.now c.as_bytes.ensures c.in_default.ensures c.as_bytes-2.ensures c.in-Some-find.image c.in-Some-find.ty c.in-Some-find.ensures.image
    (I.refused c.is_port.result (IsPort c.in-Some-find.ty) c.is_port.ensures c.if-not-is_port.true)
