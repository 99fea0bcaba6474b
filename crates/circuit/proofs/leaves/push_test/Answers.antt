use Rattle.circuit.proofs.Growing.{grow_none, grow_by}
use Rattle.std.proofs.Common.{[], refl, sym, subst, arith}
use Rattle.pointwise_ir.specs.declared.expr.Edge.{Edge}
use Rattle.circuit.specs.declared.known.BodyLeaves.{BodyLeaves}
use Rattle.circuit.specs.Leaves.{own_bit}
use Rattle.circuit.specs.Reads.{AddsLeaves}
use Rattle.circuit.proofs.Leafing.{leaves_bit}
use Rattle.circuit.specs.Registers.{AsksPart, AsksParts}
use Rattle.circuit.proofs.leaves.push_test.Goals as goal

pub returns-in_ok-push-in-Zero-clause-leaves : goal.returns-in_ok-push-in-Zero-clause-leaves
returns-in_ok-push-in-Zero-clause-leaves c =
    let r = c.args.reader.now in
    let b = c.test_on.new.b in
    let steps = c.args.steps.now in
    let now : BodyLeaves = record { nets = record { reads = c.args.leaves.now.nets.reads; bits = c.push.new.self }; known = c.args.leaves.now.known } in
    subst (λ (e : Edge). AddsLeaves b c.args.b.now r.ir.now r.plan.now r.taps.now r.image [] (own_bit e steps) now c.args.leaves.now) (sym c.in-Zero.is)
    (leaves_bit r.ir.now r.plan.now r.taps.now r.image b c.args.b.now now c.args.leaves.now steps c.in_ok-net-in-Zero.net c.in_ok-net-in-Zero.ensures.adds.includes refl c.in_ok-push-in-Zero.ensures.items refl c.in_ok-net-in-Zero.ensures.test)

pub returns-in-Clamp-clause-grows : goal.returns-in-Clamp-clause-grows
returns-in-Clamp-clause-grows c = grow_none c.args.b.now c.args.tests.now c.args.reader.now.plan.now (AsksParts c.args.reader.now.image (own_bit c.args.edge c.args.steps.now)) c.requires.tests

pub returns-in_ok-push-in-Zero-clause-grows : goal.returns-in_ok-push-in-Zero-clause-grows
returns-in_ok-push-in-Zero-clause-grows c =
    let made = c.in_ok-net-in-Zero.ensures in
    let r = c.args.reader.now in
    let steps = c.args.steps.now in
    grow_by c.test_on.new.b c.args.b.now c.test_on.new.tests c.args.tests.now r.plan.now (AsksPart r.image steps) (AsksParts r.image (own_bit c.args.edge steps))
    (λ d asks. subst (λ (e : Edge). AsksParts r.image (own_bit e steps) d) (sym c.in-Zero.is) (steps, (0, omega arith, refl), asks)) (record { adds = made.adds; tests = made.tests; needed = made.needed })
