use Rattle.std.proofs.Common.{◌≡◌, ℕ, ℤ, ◌<◌, subst, rules, to_z, of_z, w32}
use Rattle.std.proofs.lemmas.Int.{to_z-of_z}
use Rattle.dk_base.specs.Frames.{Size}
use Rattle.edge_select.specs.Steps.{LeadBy}
use Rattle.edge_select.specs.Passes.{Passes}
use Rattle.edge_select.proofs.Walks.{Same, extent_none, extent_same}
use Rattle.edge_select.proofs.extents.passing.Goals as goal

pub returns-in-Some : goal.returns-in-Some
returns-in-Some c =
    let size : Size = record { width = c.args.width; height = c.args.height } in
    let steps = c.args.steps.now in
    let r = c.in-Some.rectangle in
    let dx : to_z w32 (of_z w32 c.args.dx) ≡ c.args.dx = to_z-of_z w32 c.args.dx (search rules) in
    let dy : to_z w32 (of_z w32 c.args.dy) ≡ c.args.dy = to_z-of_z w32 c.args.dy (search rules) in
    let same : (x y : ℕ) → x < c.args.width → y < c.args.height → Same (Passes r x y) (LeadBy size steps c.args.dx c.args.dy x y) =
    λ x y low high. subst (λ (d : ℤ). Same (Passes r x y) (LeadBy size steps d c.args.dy x y)) dx (subst (λ (e : ℤ). Same (Passes r x y) (LeadBy size steps (to_z w32 (of_z w32 c.args.dx)) e x y)) dy (c.in-Some.ensures.passes x y low high)) in
    let is = extent_same c.args.width c.args.height (Passes r) (LeadBy size steps c.args.dx c.args.dy) c.extent_of.result same (c.extent_of.ensures.always, c.extent_of.ensures.never) in
    record { always = is.0; never = is.1 }

pub returns-in-None : goal.returns-in-None
returns-in-None c =
    let size : Size = record { width = c.args.width; height = c.args.height } in
    let steps = c.args.steps.now in
    let dx : to_z w32 (of_z w32 c.args.dx) ≡ c.args.dx = to_z-of_z w32 c.args.dx (search rules) in
    let dy : to_z w32 (of_z w32 c.args.dy) ≡ c.args.dy = to_z-of_z w32 c.args.dy (search rules) in
    let none : (x y : ℕ) → x < c.args.width → y < c.args.height → LeadBy size steps c.args.dx c.args.dy x y → ⊥ =
    λ x y low high. subst (λ (d : ℤ). LeadBy size steps d c.args.dy x y → ⊥) dx (subst (λ (e : ℤ). LeadBy size steps (to_z w32 (of_z w32 c.args.dx)) e x y → ⊥) dy ((c.in-None.ensures.passes x y low high).1)) in
    let is = extent_none c.args.width c.args.height (LeadBy size steps c.args.dx c.args.dy) c.requires.some_columns c.requires.some_rows none in
    record { always = is.0; never = is.1 }
