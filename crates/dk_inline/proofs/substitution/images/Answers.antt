use Rattle.std.proofs.Common.{length, subst, ◌<◌, List}
use Rattle.dk_types.specs.declared.typed.TypedDefinition.{TypedDefinition}
use Rattle.dk_types.specs.Typed.{definition_of, typing_of, image_type}
use Rattle.dk_types.specs.Typed as T
use Rattle.pointwise_ir.specs.declared.program.Definition.{Definition}
use Rattle.pointwise_ir.specs.Trees.{tree_of}
use Rattle.dk_inline.proofs.Bodies.{at_number}
use Rattle.dk_inline.proofs.ListJoins.{mapped_more, bodies_more}
use Rattle.dk_inline.proofs.substitution.images.Goals as goal

pub loop-k-preserved : goal.loop-k-preserved
loop-k-preserved c =
    let p = typing_of c.args.program.now in
    let k = c.loop-k.k in
    let t = c.index-definitions-k.result in
    let within : k < length c.args.program.now.definitions = let P : List TypedDefinition → Type 0 = λ zs. k < length zs in subst P c.definitions-definitions.ensures c.loop-k-test.true in
    let at = at_number c.args.program.now c.definitions-definitions.result.now k t c.definitions-definitions.ensures within c.index-definitions-k.is in
    record {
      names = mapped_more (λ (d : Definition). d.name) (λ (d : T.Definition). d.name.text) c.loop-k.done.items c.push.new.self.items _ p.definitions k (definition_of t) c.loop-k.invariant.names c.in_ok-push.ensures.items at c.in_ok-name.ensures;
      types = mapped_more (λ (d : Definition). d.ty) image_type c.loop-k.done.items c.push.new.self.items _ p.definitions k (definition_of t) c.loop-k.invariant.types c.in_ok-push.ensures.items at c.image_type-ty.ensures;
      bodies = bodies_more (λ (d : Definition). tree_of d.body) p c.loop-k.done.items c.push.new.self.items _ k (definition_of t) c.loop-k.invariant.bodies c.in_ok-push.ensures.items at (c.in_ok-body.ensures (definition_of t) at);
    }
