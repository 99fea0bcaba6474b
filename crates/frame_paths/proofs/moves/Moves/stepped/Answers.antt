use Rattle.std.proofs.Common.{arith, subst, ℤ}
use Rattle.pointwise_ir.specs.declared.expr.Edge.TheVariants.{Zero, Clamp}
use Rattle.frame_paths.specs.Moves.{Leads, LeadsOn, LeadsThen}
use Rattle.frame_paths.proofs.Chains.{small64}
use Rattle.frame_paths.proofs.moves.Moves.stepped.Goals as goal

pub returns-in-Zero-clause-leads : goal.returns-in-Zero-clause-leads
returns-in-Zero-clause-leads c =
    rw c.in-Zero.is (subst (λ b. (x u : ℤ) → (LeadsOn c.unclamped.result x u → LeadsThen c.args.side c.args.self Zero b x u) × (LeadsThen c.args.side c.args.self Zero b x u → LeadsOn c.unclamped.result x u))
    (small64 c.args.by (omega (arith, c.requires.step))) c.unclamped.ensures.leads)

pub returns-in-Clamp-clause-leads : goal.returns-in-Clamp-clause-leads
returns-in-Clamp-clause-leads c =
    rw c.in-Clamp.is (subst (λ b. (x u : ℤ) → (Leads c.clamped.result x u → LeadsThen c.args.side c.args.self Clamp b x u) × (LeadsThen c.args.side c.args.self Clamp b x u → Leads c.clamped.result x u))
    (small64 c.args.by (omega (arith, c.requires.step))) c.clamped.ensures.leads)
