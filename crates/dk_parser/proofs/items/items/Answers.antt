use Rattle.std.proofs.Common.{rules, ◌≡◌, ◌≢◌, ◌∷◌, ◌++◌, []}
use Rattle.std.proofs.lemmas.Result.{err_from_is_err_and}
use Rattle.dk_parser.specs.declared.items.Lead.TheVariants as lead
use Rattle.dk_parser.proofs.Stucks as S
use Rattle.dk_parser.proofs.Keeping as Q
use Rattle.dk_parser.proofs.items.items.Goals as goal

pub returns-in_err-more : goal.returns-in_err-more
returns-in_err-more c =
    let p = err_from_is_err_and c.from_residual.result c.from_residual.ensures.1 in let g = c.items.invariant in rw (p.1, p.2) (record { parsed = S.halts (λ at k. Q.going_item g k) _ (c.in_err-more.ensures.parsed g.items g.holds) })

pub returns-in_err-found : goal.returns-in_err-found
returns-in_err-found c =
    let p = err_from_is_err_and c.from_residual-in_err-found.result c.from_residual-in_err-found.ensures.1 in let g = c.items.invariant in let i = c.in_ok-more.ensures.parsed g.items g.holds in rw (p.1, p.2) (record { parsed = S.halts (λ at k. Q.going_lead g i.item i.phrase k) _ c.in_err-found.ensures.parsed })

pub returns-then-eq : goal.returns-then-eq
returns-then-eq c =
    let g = c.items.invariant in let i = c.in_ok-more.ensures.parsed g.items g.holds in let same : c.in_ok-found.found ≡ lead.End = search rules in record { parsed = record { items = g.items ++ (i.item ∷ []); phrase = Q.going_done g i.item i.phrase c.in_ok-found.ensures.parsed same; holds = i.holds } }

pub items-preserved : goal.items-preserved
items-preserved c =
    let g = c.items.invariant in let i = c.in_ok-more.ensures.parsed g.items g.holds in let other : c.in_ok-found.found ≢ lead.End = search rules in Q.going_next g i.item i.phrase c.in_ok-found.ensures.parsed i.holds other
