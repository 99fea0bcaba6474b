use Rattle.std.proofs.Common.{◌≡◌, ◌<◌, length, arith, ap, subst, sym, ◌∙◌}
use Rattle.std.proofs.lemmas.List.{get_or_read}
use Rattle.dk_base.specs.Stencils.{place, IsKept}
use Rattle.raster_delay.specs.Systems.{depth}
use Rattle.buffer_plan.specs.Plans.{Plan, IsPlan, depth_of}
use Rattle.buffer_plan.specs.contracts.plans.Plan.{the_view}
use Rattle.buffer_plan.proofs.Aged.{depth_most}
use Rattle.buffer_plan.proofs.plans.Plan.depth.Goals as goal

pub returns-clause-depth : goal.returns-clause-depth
returns-clause-depth c =
    let v = the_view c.self.inside in
    let g = c.args.g in
    let k = c.place_of.result in
    let images = c.self.inside.images.items in
    let at : k ≡ place images g = c.place_of.ensures ∙ ap (λ xs. place xs g) c.deref.ensures.value in
    let kept : IsKept images g = subst (λ xs. IsKept xs g) (sym (ap (λ (p : Plan). p.system.stencils.images) c.self.view_is)) c.requires in
    let below : k < length images = omega (arith, at, kept) in
    let within : k < length c.self.inside.depths.items = omega (arith, below, c.self.invariant.one_depth_each) in
    get_or_read c.self.inside.depths.items k c.index.result.now within c.index.ensures 0
    ∙ c.self.invariant.depths_are k below
    ∙ ap (depth v.system v.delays) at
    ∙ ap (λ p. depth_of p g) c.self.view_is

pub returns-clause-most : goal.returns-clause-most
returns-clause-most c = omega (arith, returns-clause-depth c, depth_most c.args.self.now (subst IsPlan c.self.view_is c.self.invariant.plan) c.args.g c.requires)
