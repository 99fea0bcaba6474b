use Rattle.std.proofs.Common.{◌-◌, length, map, slice_get, get_or, arith, sym, ap, ◌∙◌, refl}
use Rattle.std.specs.Option.{option_map}
use Rattle.std.proofs.lemmas.Option.{slice_get-map, slice_get-get_or}
use Rattle.dk_types.specs.Typed.{definition_of}
use Rattle.same_phases.proofs.bodies.body_of.Goals as goal

pub returns-then-place-inputs-2 : goal.returns-then-place-inputs-2
returns-then-place-inputs-2 c =
    let k = c.args.image - length c.inputs-inputs.result.now in
    let all = c.definitions-definitions.result.now in (
      definition_of (get_or all k c.index-definitions-place.result),
      (
        k,
        (let low = c.if-place-inputs.false in let long = ap length c.inputs-inputs.ensures in omega (arith, low, long)),
        ap (λ xs. slice_get (map definition_of xs) k) (sym c.definitions-definitions.ensures)
            ∙ slice_get-map definition_of all k
            ∙ ap (option_map definition_of) (slice_get-get_or all k c.index-definitions-place.result c.if-place-inputs-2.true),
      ),
      refl,
    )
