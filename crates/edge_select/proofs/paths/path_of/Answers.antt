use Rattle.std.proofs.Common.{◌≡◌, ◌+◌, pos, rules, drop, get_or, subst, to_z, of_z, w32, List, ◌∷◌, Some, None}
use Rattle.std.proofs.lemmas.Int.{to_z-of_z}
use Rattle.std.proofs.lemmas.List.{drop_more, drop_all}
use Rattle.dk_base.specs.FrameSizes.{size_of}
use Rattle.pointwise_ir.specs.declared.expr.Edge.TheVariants.{Zero}
use Rattle.frame_paths.proofs.Walks.{steps_moved}
use Rattle.edge_select.specs.declared.step.Step.{Step}
use Rattle.edge_select.proofs.Walks.{IsSoFar, so_far_first, so_far_next, so_far_nowhere, so_far_last}
use Rattle.edge_select.proofs.paths.path_of.Goals as goal

pub loop-step-init : goal.loop-step-init
loop-step-init c = record {
  path = c.none-path.ensures.path;
  so_far = so_far_first (size_of c.args.size) c.none-path.result c.args.steps.now c.none-path.ensures.leads;
}

pub returns-in-None-clause-leads : goal.returns-in-None-clause-leads
returns-in-None-clause-leads c x y u v inside =
    let i = c.loop-step.step-index in
    let size = size_of c.args.size in
    let steps = c.args.steps.now in
    let none : Step = record { edge = Zero; dx = pos 0; dy = pos 0 } in
    let step : Step = get_or steps i none in
    let p = c.loop-step.path in
    let dx : to_z w32 (of_z w32 step.dx) ≡ step.dx = to_z-of_z w32 step.dx (search rules) in
    let dy : to_z w32 (of_z w32 step.dy) ≡ step.dy = to_z-of_z w32 step.dy (search rules) in
    let so : IsSoFar size p (step ∷ drop (i + 1) steps) steps = subst (λ (l : List Step). IsSoFar size p l steps) (drop_more steps i none c.loop-step-test.true) c.loop-step.invariant.so_far in (
      (λ k. absurd k),
      so_far_nowhere size p step (drop (i + 1) steps) steps so (λ x y u v. (steps_moved size p step.edge step.dx step.dy _ _ None dx dy c.in-None.ensures.leads x y u v).1) x y u v inside,
    )

pub loop-step-preserved : goal.loop-step-preserved
loop-step-preserved c =
    let i = c.loop-step.step-index in
    let size = size_of c.args.size in
    let steps = c.args.steps.now in
    let none : Step = record { edge = Zero; dx = pos 0; dy = pos 0 } in
    let step : Step = get_or steps i none in
    let p = c.loop-step.path in
    let dx : to_z w32 (of_z w32 step.dx) ≡ step.dx = to_z-of_z w32 step.dx (search rules) in
    let dy : to_z w32 (of_z w32 step.dy) ≡ step.dy = to_z-of_z w32 step.dy (search rules) in
    let so : IsSoFar size p (step ∷ drop (i + 1) steps) steps = subst (λ (l : List Step). IsSoFar size p l steps) (drop_more steps i none c.loop-step-test.true) c.loop-step.invariant.so_far in
    record {
      path = c.in-Some.ensures.path;
      so_far = so_far_next size p c.in-Some.further step (drop (i + 1) steps) steps so (steps_moved size p step.edge step.dx step.dy _ _ (Some c.in-Some.further) dx dy c.in-Some.ensures.leads);
    }

pub returns-clause-leads : goal.returns-clause-leads
returns-clause-leads c =
    let p = c.loop-step.path in
    so_far_last (size_of c.args.size) p c.args.steps.now (subst (λ (l : List Step). IsSoFar (size_of c.args.size) p l c.args.steps.now) (drop_all c.loop-step.step-index c.args.steps.now c.loop-step-test.false) c.loop-step.invariant.so_far)
