-- The sums of nodes, one flow line more.
use Rattle.std.proofs.Common.{◌≡◌, ◌<◌, ◌+◌, ℕ, List, length, drop, get_or, slice_index, cond, eqb, zero, suc, replicate, refl, ap, ◌∙◌}
use Rattle.std.proofs.lemmas.List.{drop_more}
use Rattle.raster_delay.specs.Network.{inflow, outflow}
use Rattle.raster_delay.specs.Systems.{System}
use Rattle.report_text.specs.declared.report.FlowLine.{FlowLine}
use Rattle.report_text.specs.declared.report.FlowLine.TheVariants.{Hold}
use Rattle.plan_check.specs.Flows.{amount_of}
use Rattle.plan_check.specs.Sums.{constraint_of, carriers, amounts}
use Rattle.plan_check.proofs.Flowing.{inflow_cons, outflow_cons}

module _ (s : System) (flow : List FlowLine) (i : ℕ) (below : i < length flow) (v : ℕ) where
  pub inflow_more : inflow (carriers s (drop i flow)) (amounts (drop i flow)) v
      ≡ cond (eqb (constraint_of s (get_or flow i (Hold 0 0))).target v) (amount_of (get_or flow i (Hold 0 0))) 0 + inflow (carriers s (drop (i + 1) flow)) (amounts (drop (i + 1) flow)) v
  inflow_more = ap (λ xs. inflow (carriers s xs) (amounts xs) v) (drop_more flow i (Hold 0 0) below) ∙ inflow_cons s v (get_or flow i (Hold 0 0)) (drop (i + 1) flow)

  pub outflow_more : outflow (carriers s (drop i flow)) (amounts (drop i flow)) v
      ≡ cond (eqb (constraint_of s (get_or flow i (Hold 0 0))).source v) (amount_of (get_or flow i (Hold 0 0))) 0 + outflow (carriers s (drop (i + 1) flow)) (amounts (drop (i + 1) flow)) v
  outflow_more = ap (λ xs. outflow (carriers s xs) (amounts xs) v) (drop_more flow i (Hold 0 0) below) ∙ outflow_cons s v (get_or flow i (Hold 0 0)) (drop (i + 1) flow)

pub none_at : (n v : ℕ) → slice_index (replicate n 0) v ≡ 0
none_at zero v = refl
none_at (suc n) zero = refl
none_at (suc n) (suc v) = none_at n v
