use Rattle.circuit.proofs.Growing.{grow_none}
use Rattle.std.proofs.Common.{refl, subst, ◌≡◌, ℕ, length, rules}
use Rattle.circuit.specs.declared.known.BodyLeaves.{BodyLeaves}
use Rattle.circuit.specs.Leaves.{LeafRead, leaf_at}
use Rattle.circuit.specs.Known.{IsKnownNet, placed_at, IsAdded}
use Rattle.circuit.proofs.Leafing.{leaves_known, leaves_new}
use Rattle.circuit.specs.Registers.{AsksLeaf}
use Rattle.circuit.proofs.leaves.push_net.Goals as goal

pub returns-in_ok-push-in-Some-clause-leaves : goal.returns-in_ok-push-in-Some-clause-leaves
returns-in_ok-push-in-Some-clause-leaves c =
    let r = c.args.reader.now in
    let before = c.args.leaves.now in
    let now : BodyLeaves = record { nets = record { reads = c.push.new.self; bits = before.nets.bits }; known = before.known } in
    let is = subst (λ (l : LeafRead). IsKnownNet before.nets.reads.items before.known l c.in-Some.net) c.in_ok-key.ensures c.in-Some.ensures in
    leaves_known r.ir.now r.plan.now r.taps.now r.image c.args.b.now now before (leaf_at c.args.leaf.image c.args.leaf.steps.now) c.in-Some.net c.in_ok-push-in-Some.ensures.items refl refl is

pub returns-in_ok-push-in-Some-clause-grows : goal.returns-in_ok-push-in-Some-clause-grows
returns-in_ok-push-in-Some-clause-grows c = grow_none c.args.b.now c.args.tests.now c.args.reader.now.plan.now (AsksLeaf c.args.reader.now.plan.now c.args.reader.now.image (leaf_at c.args.leaf.image c.args.leaf.steps.now)) c.requires.reader.tests

pub returns-in_ok-push-in-None-clause-leaves : goal.returns-in_ok-push-in-None-clause-leaves
returns-in_ok-push-in-None-clause-leaves c =
    let r = c.args.reader.now in
    let before = c.args.leaves.now in
    let now : BodyLeaves = record { nets = record { reads = c.push-in-None.new.self; bits = before.nets.bits }; known = c.add.new.self } in
    let place : c.len.result ≡ length before.nets.reads.items = search rules in
    let added = subst (λ (l : LeafRead). IsAdded c.add.new.self before.known (placed_at l c.len.result)) c.in_ok-key.ensures c.in_ok-add-in-None.ensures in
    let known = subst (λ (n : ℕ). IsAdded c.add.new.self before.known (placed_at (leaf_at c.args.leaf.image c.args.leaf.steps.now) n)) place added in
    let net = c.in_ok-net-in-None.ensures in
    leaves_new r.ir.now r.plan.now r.taps.now r.image c.read_net.new.b c.args.b.now now before (leaf_at c.args.leaf.image c.args.leaf.steps.now) c.in_ok-net-in-None.net net.grows.adds.includes c.in_ok-push-in-None.ensures.items refl known net.read.ty net.read.net
