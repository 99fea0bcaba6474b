use Rattle.std.proofs.Common.{◌≡◌, map, take}
use Rattle.dk_types.specs.Typed.{typing_of, image_type}
use Rattle.dk_types.specs.Typed as T
use Rattle.pointwise_ir.specs.declared.program.Definition.{Definition}
use Rattle.pointwise_ir.specs.Trees.{tree_of}
use Rattle.dk_inline.specs.Inlined.{bodies_from}
use Rattle.dk_inline.proofs.substitution.images.Given as goal

abbrev pub invariant-loop-k : goal.invariant-loop-k
invariant-loop-k l = record {
  names : map (λ (d : Definition). d.name) l.done.items ≡ map (λ (d : T.Definition). d.name.text) (take l.k (typing_of l.program).definitions);
  types : map (λ (d : Definition). d.ty) l.done.items ≡ map image_type (take l.k (typing_of l.program).definitions);
  bodies : map (λ (d : Definition). tree_of d.body) l.done.items ≡ bodies_from (typing_of l.program) 0 (take l.k (typing_of l.program).definitions);
}
