use Rattle.std.proofs.Common.{◌≡◌, Contains, sym, subst, ap, ◌∙◌}
use Rattle.std.specs.Prelude.{pos, ◌≤ℤ◌, unsigned_abs}
use Rattle.raster_delay.specs.Delays.{IsNear, offset, age_of}
use Rattle.raster_delay.specs.Placing.{placed}
use Rattle.buffer_plan.specs.Plans.{Plan, read_age, ages_of}
use Rattle.buffer_plan.specs.contracts.plans.Plan.{the_view}
use Rattle.buffer_plan.proofs.Aged.{near, due, age_is, age_among}
use Rattle.buffer_plan.proofs.plans.Plan.age.Goals as goal

pub age_held-requires-clause-near : goal.age_held-requires-clause-near
age_held-requires-clause-near c =
    let r = c.args.r in
    let v = the_view c.self.inside in
    let reader = c.placed_read-placed.ensures ∙ ap (λ xs. placed xs r) c.deref.ensures.value in
    let has : Contains v.system.stencils.reads r = subst (λ (p : Plan). Contains p.system.stencils.reads r) (sym c.self.view_is) c.requires in
    subst (λ x. IsNear (offset c.self.inside.width x)) (sym reader) (near v c.self.invariant.plan r has)

pub age_held-requires-clause-due : goal.age_held-requires-clause-due
age_held-requires-clause-due c =
    let r = c.args.r in
    let v = the_view c.self.inside in
    let reader = c.placed_read-placed.ensures ∙ ap (λ xs. placed xs r) c.deref.ensures.value in
    let same : age_of c.self.inside.width c.deref-2.result.now c.placed_read-placed.result ≡ read_age v r =
    ap (λ ds. age_of c.self.inside.width ds c.placed_read-placed.result) c.deref-2.ensures.value ∙ ap (age_of c.self.inside.width c.self.inside.delays.items) reader
    in
    let has : Contains v.system.stencils.reads r = subst (λ (p : Plan). Contains p.system.stencils.reads r) (sym c.self.view_is) c.requires in
    subst (λ z. pos 0 ≤ℤ z) (sym same) (due v c.self.invariant.plan r has)

pub returns-clause-value : goal.returns-clause-value
returns-clause-value c =
    let r = c.args.r in
    let v = the_view c.self.inside in
    let reader = c.placed_read-placed.ensures ∙ ap (λ xs. placed xs r) c.deref.ensures.value in
    let same : age_of c.self.inside.width c.deref-2.result.now c.placed_read-placed.result ≡ read_age v r =
    ap (λ ds. age_of c.self.inside.width ds c.placed_read-placed.result) c.deref-2.ensures.value ∙ ap (age_of c.self.inside.width c.self.inside.delays.items) reader
    in
    let has : Contains v.system.stencils.reads r = subst (λ (p : Plan). Contains p.system.stencils.reads r) (sym c.self.view_is) c.requires in
    age_is v c.self.invariant.plan r has c.age_held.result (c.age_held.ensures.value ∙ ap unsigned_abs same) ∙ ap (λ p. read_age p r) c.self.view_is

pub returns-clause-among : goal.returns-clause-among
returns-clause-among c =
    let r = c.args.r in
    let v = the_view c.self.inside in
    let reader = c.placed_read-placed.ensures ∙ ap (λ xs. placed xs r) c.deref.ensures.value in
    let same : age_of c.self.inside.width c.deref-2.result.now c.placed_read-placed.result ≡ read_age v r =
    ap (λ ds. age_of c.self.inside.width ds c.placed_read-placed.result) c.deref-2.ensures.value ∙ ap (age_of c.self.inside.width c.self.inside.delays.items) reader
    in
    let has : Contains v.system.stencils.reads r = subst (λ (p : Plan). Contains p.system.stencils.reads r) (sym c.self.view_is) c.requires in
    subst (λ p. Contains (ages_of p r.g) c.age_held.result) c.self.view_is (age_among v c.self.invariant.plan r has c.age_held.result (c.age_held.ensures.value ∙ ap unsigned_abs same))
