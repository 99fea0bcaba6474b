use Rattle.std.proofs.Common.{◌≡◌, rules, subst, to_z, of_z, w32, w64, sym, ◌∙◌}
use Rattle.std.proofs.lemmas.Int.{to_z-of_z}
use Rattle.frame_paths.specs.Moves.{LeadsThen}
use Rattle.frame_paths.proofs.Chains.{same64}
use Rattle.frame_paths.proofs.moves.Moves.step.Goals as goal

pub returns-in-Some-clause-leads : goal.returns-in-Some-clause-leads
returns-in-Some-clause-leads c x u =
    let e : to_z w64 (of_z w64 c.from.result) ≡ c.args.by = same64 c.from.result (search rules) ∙ c.from.ensures ∙ to_z-of_z w32 c.args.by (search rules) in
    let n = (c.near.ensures.leads x u) in
    let s = (c.in-Some.ensures.leads x u) in (
      (λ k. subst (λ b. LeadsThen c.args.side c.args.self c.args.edge b x u) e (s.0 (n.0 k))),
      (λ k. n.1 (s.1 (subst (λ b. LeadsThen c.args.side c.args.self c.args.edge b x u) (sym e) k))),
    )

pub returns-in-None-clause-leads : goal.returns-in-None-clause-leads
returns-in-None-clause-leads c x u =
    let e : to_z w64 (of_z w64 c.from.result) ≡ c.args.by = same64 c.from.result (search rules) ∙ c.from.ensures ∙ to_z-of_z w32 c.args.by (search rules) in
    let s = (c.in-None.ensures.leads x u) in (
      (λ k. absurd k),
      (λ k. s.1 (subst (λ b. LeadsThen c.args.side c.args.self c.args.edge b x u) (sym e) k)),
    )
