use Rattle.circuit.proofs.Growing.{grow_then}
use Rattle.std.proofs.Common.{◌≡◌, ℕ, ◌<◌, length, sym, subst, ap, ◌∙◌, arith}
use Rattle.dk_base.specs.declared.ty.Ty.{Ty}
use Rattle.dk_base.specs.Types.{width_of}
use Rattle.pointwise_ir.specs.Programs.{types_of}
use Rattle.wiring.specs.Sizes.{IsWidth}
use Rattle.circuit.specs.Rounds.{type_at}
use Rattle.circuit.specs.Leaves.{leaf_at}
use Rattle.circuit.specs.Reads.{IsNetOf, IsReadNet}
use Rattle.circuit.proofs.Taking.{chosen_is_read, type_wide}
use Rattle.circuit.proofs.Typing.{type_is}
use Rattle.circuit.specs.Registers.{AsksLeaf}
use Rattle.circuit.proofs.choices.read_net.Goals as goal

pub net_of-requires : goal.net_of-requires
net_of-requires c =
    let r = c.args.reader.now in
    let there : c.args.leaf.image < length (types_of r.ir.now) = omega (arith, c.requires.earlier, c.requires.reader.reading.there) in
    record { bits = subst IsWidth (sym (c.width.ensures ∙ ap width_of (type_is r.ir.now c.args.leaf.image c.type_of-ty.result c.type_of-ty.ensures))) (type_wide r.ir.now c.law.ensures c.args.leaf.image there) }

pub returns-clause-read : goal.returns-clause-read
returns-clause-read c = record {
  ty = type_is c.args.reader.now.ir.now c.args.leaf.image c.type_of-ty.result c.type_of-ty.ensures;
  net = λ first inc. let r = c.args.reader.now in
      let typed = type_is r.ir.now c.args.leaf.image c.type_of-ty.result c.type_of-ty.ensures in
      let bits : c.width.result ≡ width_of (type_at r.ir.now c.args.leaf.image) = c.width.ensures ∙ ap width_of typed in
      subst (λ (t : Ty). IsReadNet c.net_of.new.b first r.plan.now r.taps.now r.image (leaf_at c.args.leaf.image c.args.leaf.steps.now) (width_of t) c.in_ok-net.net) (sym typed)
      (chosen_is_read c.net_of.new.b c.choice_of.new.b first r.plan.now r.taps.now r.image (leaf_at c.args.leaf.image c.args.leaf.steps.now) (width_of (type_at r.ir.now c.args.leaf.image)) c.in_ok-choice.choice c.in_ok-net.net c.in_ok-net.ensures.logic.includes (c.in_ok-choice.ensures.choice first inc)
      (subst (λ (w : ℕ). IsNetOf c.net_of.new.b c.choice_of.new.b w c.in_ok-choice.choice c.in_ok-net.net) bits c.in_ok-net.ensures.test));
}

pub returns-clause-grows : goal.returns-clause-grows
returns-clause-grows c =
    let r = c.args.reader.now in
    grow_then c.net_of.new.b c.choice_of.new.b c.args.b.now c.choice_of.new.tests c.args.tests.now r.plan.now (AsksLeaf r.plan.now r.image (leaf_at c.args.leaf.image c.args.leaf.steps.now)) c.in_ok-choice.ensures.grows c.in_ok-net.ensures.logic
