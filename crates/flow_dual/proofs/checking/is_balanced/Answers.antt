use Rattle.std.proofs.Common.{◌≡◌, ◌<◌, ℕ, pos, slice_index, ◌∙◌}
use Rattle.std.specs.Prelude.{◌-ℤ◌}
use Rattle.std.proofs.lemmas.Bool.{OnTrue_at, OnTrue_from}
use Rattle.raster_delay.specs.Network.{inflow, outflow}
use Rattle.raster_delay.specs.Systems.{IsBalanced, nodes, constraints_in, coefficient_in}
use Rattle.flow_dual.proofs.Balances.{balanced_from}
use Rattle.flow_dual.proofs.Networks.{network_in}
use Rattle.flow_dual.proofs.checking.is_balanced.Goals as goal

pub inflows-requires-clause-flow : goal.inflows-requires-clause-flow
inflows-requires-clause-flow c = rw c.constraints-constraints.ensures.form c.requires

pub inflows-requires-clause-targets : goal.inflows-requires-clause-targets
inflows-requires-clause-targets c = rw (c.constraints-constraints.ensures.form, c.nodes.ensures) (network_in c.args.system.now c.law.ensures).targets

pub outflows-requires-clause-flow : goal.outflows-requires-clause-flow
outflows-requires-clause-flow c = rw c.constraints-constraints.ensures.form c.requires

pub outflows-requires-clause-sources : goal.outflows-requires-clause-sources
outflows-requires-clause-sources c = rw (c.constraints-constraints.ensures.form, c.nodes-2.ensures) (network_in c.args.system.now c.law.ensures).sources

pub returns : goal.returns
returns c =
    let s = c.args.system.now in
    let cs = constraints_in s in
    let flow = c.args.flow.now in
    let value = c.constraints-constraints.ensures.form in
    let xs = c.in_ok-inflows.inflows.items in
    let ys = c.in_ok-outflows.outflows.items in
    let into : (v : ℕ) → slice_index xs v ≡ inflow cs flow v = rw (← value) c.in_ok-inflows.ensures.value in
    let out : (v : ℕ) → slice_index ys v ≡ outflow cs flow v = rw (← value) c.in_ok-outflows.ensures.value in
    let xs_are = c.deref.ensures.value in
    let ys_are = c.deref-2.ensures.value in
    OnTrue_from c.are_balanced-balanced.result (IsBalanced s flow) (λ yes.
    let same : (v : ℕ) → v < nodes s → pos (slice_index xs v) -ℤ pos (slice_index ys v) ≡ coefficient_in s v = rw (← xs_are, ← ys_are) (OnTrue_at yes c.are_balanced-balanced.ensures) in
    balanced_from s flow xs ys c.law.ensures c.requires.flows (c.in_ok-inflows.ensures.sums_are.length_is ∙ c.nodes.ensures) (c.in_ok-outflows.ensures.sums_are.length_is ∙ c.nodes-2.ensures) into out same)
