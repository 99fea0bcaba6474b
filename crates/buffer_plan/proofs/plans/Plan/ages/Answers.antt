use Rattle.std.proofs.Common.{◌≡◌, ◌<◌, [], length, slice_index_or, arith, ap, subst, sym, ◌∙◌}
use Rattle.std.proofs.lemmas.List.{get_or_read}
use Rattle.dk_base.specs.Stencils.{place, IsKept}
use Rattle.raster_delay.specs.Systems.{placed_reads}
use Rattle.buffer_plan.specs.Plans.{Plan, AreAges, AreDistinct, ages_in}
use Rattle.buffer_plan.specs.contracts.plans.Plan.{the_view}
use Rattle.buffer_plan.proofs.Aged.{ages_once}
use Rattle.buffer_plan.proofs.plans.Plan.ages.Goals as goal

pub returns-clause-distinct : goal.returns-clause-distinct
returns-clause-distinct c =
    let v = the_view c.self.inside in
    let g = c.args.g in
    let k = c.place_of.result in
    let images = c.self.inside.images.items in
    let at : k ≡ place images g = c.place_of.ensures ∙ ap (λ xs. place xs g) c.deref.ensures.value in
    let kept : IsKept images g = subst (λ xs. IsKept xs g) (sym (ap (λ (p : Plan). p.system.stencils.images) c.self.view_is)) c.requires in
    let below : k < length images = omega (arith, at, kept) in
    let within : k < length c.self.inside.ages.items = omega (arith, below, c.self.invariant.one_list_each) in
    let told : c.as_slice.result.now ≡ slice_index_or c.self.inside.ages.items k [] = c.as_slice.ensures ∙ get_or_read c.self.inside.ages.items k c.index.result.now within c.index.ensures [] in
    let here = subst (λ j. AreDistinct (ages_in v.system.stencils.width v.delays j (placed_reads v.system)) (slice_index_or c.self.inside.ages.items k [])) at (c.self.invariant.ages_are k below) in
    subst (λ p. AreAges p g c.as_slice.result.now) c.self.view_is (subst (AreAges v g) (sym told) here)

pub returns-clause-ages : goal.returns-clause-ages
returns-clause-ages c = ages_once c.args.self.now c.args.g c.as_slice.result.now (returns-clause-distinct c)
