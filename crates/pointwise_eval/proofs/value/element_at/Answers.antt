use Rattle.std.proofs.Common.{◌∙◌, ap, rules}
use Rattle.std.specs.Prelude.{FitsSigned}
use Rattle.std.proofs.lemmas.Int.{to_z-of_z}
use mir.Syntax.{w64, w128}
use Rattle.pointwise_eval.proofs.Pixels.{element_within, element_value}
use Rattle.pointwise_eval.proofs.value.element_at.Goals as goal

pub bounds-elements-place : goal.bounds-elements-place
bounds-elements-place g c = element_within g.T.Element.worth c.args.elements.now c.args.place c.requires

pub returns : goal.returns
returns g c =
    let narrow : FitsSigned w64 c.widen.result = search rules in
    let fits : FitsSigned w128 c.from.result = search rules in
    rw (to_z-of_z w128 c.from.result fits)
    (c.from.ensures ∙ to_z-of_z w64 c.widen.result narrow ∙ c.widen.ensures.value ∙ ap g.T.Element.worth c.index-elements-place.is ∙ element_value g.T.Element.worth c.args.elements.now c.args.place c.index-elements-place.result c.requires)
