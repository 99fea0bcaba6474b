use Rattle.std.proofs.Common.{◌++◌, map, Some, slice_get, ap, sym, ◌∙◌}
use Rattle.dk_types.specs.Typed.{definition_of, definitions_as, image_type, input_types}
use Rattle.same_phases.proofs.Types.{definition_type_at}
use Rattle.same_phases.proofs.phases.type_of.Goals as goal

pub returns-then-place-inputs-2 : goal.returns-then-place-inputs-2
returns-then-place-inputs-2 c =
    let is = c.inputs-inputs.result.now in
    let ds = c.definitions-definitions.result.now in
    let program = c.args.program.now in
    ap (λ xs. slice_get (input_types xs ++ map image_type (definitions_as program.definitions)) c.args.image) (sym c.inputs-inputs.ensures)
    ∙ ap (λ xs. slice_get (input_types is ++ map image_type (definitions_as xs)) c.args.image) (sym c.definitions-definitions.ensures)
    ∙ definition_type_at is ds c.args.image c.index-definitions-place.result c.if-place-inputs.false c.if-place-inputs-2.true
    ∙ ap (λ d. Some (image_type (definition_of d))) (sym c.index-definitions-place.is) ∙ ap Some (sym c.image_type.ensures)
