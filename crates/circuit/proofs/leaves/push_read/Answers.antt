use Rattle.circuit.specs.Growing.{GrowFor}
use Rattle.std.proofs.Common.{List, [], ◌∷◌, subst, ◌∙◌}
use Rattle.edge_select.specs.declared.step.Step.{Step}
use Rattle.circuit.specs.Leaves.{leaf_at}
use Rattle.circuit.specs.Reads.{AddsLeaves}
use Rattle.circuit.specs.Registers.{AsksLeaf}
use Rattle.circuit.proofs.leaves.push_read.Goals as goal

pub returns-clause-leaves : goal.returns-clause-leaves
returns-clause-leaves c =
    let r = c.args.reader.now in
    subst (λ (steps : List Step). AddsLeaves c.push_net.new.b c.args.b.now r.ir.now r.plan.now r.taps.now r.image (leaf_at c.args.read.image steps ∷ []) [] c.push_net.new.leaves c.args.leaves.now) (c.deref.ensures.value ∙ c.in_ok-push.ensures.items) c.in_ok-push_net.ensures.leaves

pub returns-clause-grows : goal.returns-clause-grows
returns-clause-grows c =
    let r = c.args.reader.now in
    subst (λ (steps : List Step). GrowFor c.push_net.new.b c.args.b.now c.push_net.new.tests c.args.tests.now r.plan.now (AsksLeaf r.plan.now r.image (leaf_at c.args.read.image steps))) (c.deref.ensures.value ∙ c.in_ok-push.ensures.items) c.in_ok-push_net.ensures.grows
