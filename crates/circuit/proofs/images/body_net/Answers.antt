use Rattle.circuit.specs.Growing.{GrowFor}
use Rattle.circuit.proofs.Growing.{grow_by, grow_then}
use Rattle.pointwise_ir.specs.Trees.{tree_of}
use Rattle.circuit.proofs.Imaging.{body_before, are_leaves, has_leaves, image_net_is, first_leaves}
use Rattle.std.proofs.Common.{List, [], subst}
use Rattle.edge_select.specs.declared.step.Step.{Step}
use Rattle.circuit.specs.Leaves.{reads_of, bits_of}
use Rattle.circuit.specs.Registers.{Asks, IsAsked}
use Rattle.circuit.proofs.images.body_net.Goals as goal

pub push_leaves-requires-clause-earlier : goal.push_leaves-requires-clause-earlier
push_leaves-requires-clause-earlier c =
    let r = c.args.reader.now in
    body_before r.ir.now c.law.ensures r.image (tree_of c.args.body.now) c.requires.body

pub lower-requires-clause-nets : goal.lower-requires-clause-nets
lower-requires-clause-nets c =
    let r = c.args.reader.now in
    are_leaves c.push_leaves.new.b c.args.b.now r.ir.now r.plan.now r.taps.now r.image (tree_of c.args.body.now) c.push_leaves.new.leaves.nets.reads.items c.push_leaves.new.leaves.nets.bits.items c.law.ensures c.law-2.ensures c.requires.reader.reading c.requires.body
    (first_leaves c.push_leaves.new.b c.args.b.now r.ir.now r.plan.now r.taps.now r.image (tree_of c.args.body.now) c.new-steps.result.items c.push_leaves.new.leaves c.new-leaves.result c.new-steps.ensures.items c.new-leaves.ensures.reads c.new-leaves.ensures.bits c.new-leaves.ensures.known c.in_ok-push_leaves.ensures.leaves)

pub lower-requires-clause-leaves : goal.lower-requires-clause-leaves
lower-requires-clause-leaves c =
    let r = c.args.reader.now in
    has_leaves c.push_leaves.new.b c.args.b.now r.ir.now r.plan.now r.taps.now r.image (tree_of c.args.body.now) c.push_leaves.new.leaves.nets.reads.items c.push_leaves.new.leaves.nets.bits.items c.law.ensures c.law-2.ensures c.requires.reader.reading c.requires.body
    (first_leaves c.push_leaves.new.b c.args.b.now r.ir.now r.plan.now r.taps.now r.image (tree_of c.args.body.now) c.new-steps.result.items c.push_leaves.new.leaves c.new-leaves.result c.new-steps.ensures.items c.new-leaves.ensures.reads c.new-leaves.ensures.bits c.new-leaves.ensures.known c.in_ok-push_leaves.ensures.leaves)

pub returns-clause-net : goal.returns-clause-net
returns-clause-net c =
    let r = c.args.reader.now in
    image_net_is c.push_leaves.new.b c.args.b.now r.ir.now r.plan.now r.taps.now r.image (tree_of c.args.body.now) c.push_leaves.new.leaves.nets.reads.items c.push_leaves.new.leaves.nets.bits.items c.law.ensures c.law-2.ensures c.requires.reader.reading c.requires.body
    (first_leaves c.push_leaves.new.b c.args.b.now r.ir.now r.plan.now r.taps.now r.image (tree_of c.args.body.now) c.new-steps.result.items c.push_leaves.new.leaves c.new-leaves.result c.new-steps.ensures.items c.new-leaves.ensures.reads c.new-leaves.ensures.bits c.new-leaves.ensures.known c.in_ok-push_leaves.ensures.leaves) c.lower.new.b c.in_ok-net.net c.lower.ensures.grows.includes c.in_ok-push_leaves.ensures.grows.adds.includes c.in_ok-net.ensures.value c.in_ok-net.ensures.made

pub returns-clause-grows : goal.returns-clause-grows
returns-clause-grows c =
    let r = c.args.reader.now in
    let plan = r.plan.now in
    let e = tree_of c.args.body.now in
    let pushed = subst (λ (s : List Step). GrowFor c.push_leaves.new.b c.args.b.now c.push_leaves.new.tests c.args.tests.now plan (Asks plan r.image (reads_of e s) (bits_of e s))) c.new-steps.ensures.items c.in_ok-push_leaves.ensures.grows in
    grow_then c.lower.new.b c.push_leaves.new.b c.args.b.now c.push_leaves.new.tests c.args.tests.now plan (IsAsked r.ir.now plan)
    (grow_by c.push_leaves.new.b c.args.b.now c.push_leaves.new.tests c.args.tests.now plan (Asks plan r.image (reads_of e []) (bits_of e [])) (IsAsked r.ir.now plan) (λ d asks. record { image = r.image; kept = c.requires.reader.reading.kept; body = e; is_body = c.requires.body; asks = asks }) pushed)
    c.lower.ensures.grows
