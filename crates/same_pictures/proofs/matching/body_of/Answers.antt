use Rattle.std.proofs.Common.{◌-◌, length, map, slice_get, arith, sym, ap, ◌∙◌}
use Rattle.std.specs.Option.{option_map}
use Rattle.std.proofs.lemmas.Option.{slice_get-map, slice_get-get_or}
use Rattle.pointwise_ir.specs.declared.program.Definition.{Definition}
use Rattle.pointwise_ir.specs.Trees.{tree_of}
use Rattle.same_pictures.proofs.matching.body_of.Goals as goal

pub returns-then-place-inputs-2 : goal.returns-then-place-inputs-2
returns-then-place-inputs-2 c =
    let k = c.args.image - length c.inputs-inputs.result.now in
    let all = c.images-images.result.now in (
      k,
      (let low = c.if-place-inputs.false in let long = ap length c.inputs-inputs.ensures in omega (arith, low, long)),
      ap (λ xs. slice_get (map (λ (d : Definition). tree_of d.body) xs) k) (sym c.images-images.ensures)
          ∙ slice_get-map (λ (d : Definition). tree_of d.body) all k
          ∙ ap (option_map (λ (d : Definition). tree_of d.body)) (slice_get-get_or all k c.index-images-place.result c.if-place-inputs-2.true),
    )
