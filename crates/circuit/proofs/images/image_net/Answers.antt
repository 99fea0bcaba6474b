use Rattle.circuit.proofs.Growing.{grow_none}
use Rattle.std.proofs.Common.{◌<◌, length, ap, arith}
use Rattle.circuit.proofs.Imaging.{input_net_is, body_at}
use Rattle.circuit.specs.Registers.{IsAsked}
use Rattle.circuit.proofs.images.image_net.Goals as goal

pub returns-then-place-inputs-clause-net : goal.returns-then-place-inputs-clause-net
returns-then-place-inputs-clause-net c =
    let r = c.args.reader.now in
    let low : r.image < length r.ir.now.inputs = (let e = ap length c.inputs-inputs.ensures in omega (arith, e, c.if-place-inputs.true)) in
    input_net_is c.args.b.now r.ir.now r.plan.now r.taps.now r.image c.din_at.result c.requires.reader.reading c.requires.ports low c.din_at.ensures.din c.din_at.ensures.net

pub body_net-requires-clause-body : goal.body_net-requires-clause-body
body_net-requires-clause-body c =
    let r = c.args.reader.now in
    body_at r.ir.now c.inputs-inputs.result.now c.images.result.now c.inputs-inputs.ensures c.images.ensures r.image c.index-images-place.result c.if-place-inputs.false c.requires.reader.reading.there

pub returns-then-place-inputs-clause-grows : goal.returns-then-place-inputs-clause-grows
returns-then-place-inputs-clause-grows c = grow_none c.args.b.now c.args.tests.now c.args.reader.now.plan.now (IsAsked c.args.reader.now.ir.now c.args.reader.now.plan.now) c.requires.reader.tests
