use Rattle.std.proofs.Common.{rules, ◌∙◌, sym}
use Rattle.std.proofs.lemmas.List.Sorted.{answers_always}
use Rattle.dk_base.proofs.Orders.{searched_kept}
use Rattle.dk_base.proofs.stencil_rules.is_kept.Goals as goal

pub returns-clause-yes : goal.returns-clause-yes
returns-clause-yes c =
    let found = c.binary_search_by_key.ensures.position (λ y. y.number) (answers_always _ _ _ (λ f a r g called. search rules)) in
    let both = searched_kept c.args.images.now c.args.number _ (record { number = 0; width = 0 }) c.requires c.binary_search_by_key.ensures.bound found in
    λ yes. both.0 (sym c.is_ok.ensures.value ∙ yes)

pub returns-clause-no : goal.returns-clause-no
returns-clause-no c =
    let found = c.binary_search_by_key.ensures.position (λ y. y.number) (answers_always _ _ _ (λ f a r g called. search rules)) in
    let both = searched_kept c.args.images.now c.args.number _ (record { number = 0; width = 0 }) c.requires c.binary_search_by_key.ensures.bound found in
    λ kept. c.is_ok.ensures.value ∙ both.1 kept
