use Rattle.std.proofs.Common.{Err, rules}
use Rattle.std.proofs.lemmas.List.Sorted.{answers_always}
use Rattle.dk_base.specs.declared.stencils.Image.{Image}
use Rattle.dk_base.proofs.Orders.{searched_kept}
use Rattle.raster_delay.proofs.Places.{found_place, no_is_no}
use Rattle.raster_delay.proofs.placed.find.Goals as goal

pub returns-in-Ok-clause-kept : goal.returns-in-Ok-clause-kept
returns-in-Ok-clause-kept c =
    let none : Image = record { number = 0; width = 0 } in
    let found = c.in-Ok.ensures.position (λ y. y.number) (answers_always _ _ _ (λ f a r g called. search rules)) in
    (found_place c.args.images.now c.args.number c.in-Ok.place none c.requires c.in-Ok.ensures.bound (found none)).0

pub returns-in-Ok-clause-place : goal.returns-in-Ok-clause-place
returns-in-Ok-clause-place c =
    let none : Image = record { number = 0; width = 0 } in
    let found = c.in-Ok.ensures.position (λ y. y.number) (answers_always _ _ _ (λ f a r g called. search rules)) in
    (found_place c.args.images.now c.args.number c.in-Ok.place none c.requires c.in-Ok.ensures.bound (found none)).1

pub returns-in-Err-clause-not_kept : goal.returns-in-Err-clause-not_kept
returns-in-Err-clause-not_kept c = λ kept.
    let none : Image = record { number = 0; width = 0 } in
    let found = c.in-Err.ensures.position (λ y. y.number) (answers_always _ _ _ (λ f a r g called. search rules)) in
    let both = searched_kept c.args.images.now c.args.number (Err c.in-Err.field-0) none c.requires c.in-Err.ensures.bound found in
    no_is_no (both.1 kept)
