use Rattle.std.proofs.Common.{◌≡◌, List, [], ◌∷◌, length, Some, sym, ap, subst, arith}
use Rattle.std.specs.Prelude.{slice_get}
use Rattle.std.proofs.lemmas.Option.{same_Some}
use Rattle.edge_select.specs.declared.step.Step.{Step}
use Rattle.edge_select.specs.Steps.{LeadBy}
use Rattle.circuit.proofs.choices.misses.Goals as goal

one_step : (steps : List Step) (step : Step) → length steps ≡ 1 → slice_get steps 0 ≡ Some step → steps ≡ step ∷ []
one_step [] step one at = absurd (omega (arith, one))
one_step (first ∷ []) step one at = ap (λ (s : Step). s ∷ []) (same_Some first step at)
one_step (first ∷ (second ∷ rest)) step one at = absurd (omega (arith, one))

pub returns-in-Some : goal.returns-in-Some
returns-in-Some c misses size x y lead =
    let step = c.in-Some.step.now in
    c.differs.ensures misses size x y (subst (λ (steps : List Step). LeadBy size steps c.args.read.dx c.args.read.dy x y) (one_step c.args.steps.now step c.if-steps-ne1.false (sym c.in-Some.ensures.value)) lead)
