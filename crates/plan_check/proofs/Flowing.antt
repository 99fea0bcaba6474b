-- One flow line more.
use Rattle.std.proofs.Common.{◌≡◌, ◌<◌, ◌+◌, ℕ, List, ◌∷◌, map, arith, cond, eqb}
use Rattle.std.specs.Prelude.{Contains}
use Rattle.std.specs.List.{zip}
use Rattle.std.proofs.lemmas.List.Sums.{sum_by-cons}
use Rattle.std.proofs.lemmas.List.Elements.{All-contains}
use Rattle.raster_delay.specs.Network.{inflow, outflow}
use Rattle.raster_delay.specs.Delays.{AreReadsOf, IsNear, offset}
use Rattle.raster_delay.specs.Systems.{System, IsSystem, image_count, placed_reads}
use Rattle.raster_delay.specs.declared.placed.PlacedRead.{PlacedRead}
use Rattle.raster_delay.proofs.Places.{system_form}
use Rattle.report_text.specs.declared.report.FlowLine.{FlowLine}
use Rattle.plan_check.specs.Flows.{amount_of}
use Rattle.plan_check.specs.Sums.{constraint_of, carriers, amounts}

module _ (s : System) (v : ℕ) (x : FlowLine) (xs : List FlowLine) where
  pub inflow_cons : inflow (carriers s (x ∷ xs)) (amounts (x ∷ xs)) v ≡ cond (eqb (constraint_of s x).target v) (amount_of x) 0 + inflow (carriers s xs) (amounts xs) v
  inflow_cons = sum_by-cons (λ (a : ℕ × ℕ). cond (eqb a.0 v) a.1 0) ((constraint_of s x).target, amount_of x) (zip (map (λ c. c.target) (carriers s xs)) (amounts xs))

  pub outflow_cons : outflow (carriers s (x ∷ xs)) (amounts (x ∷ xs)) v ≡ cond (eqb (constraint_of s x).source v) (amount_of x) 0 + outflow (carriers s xs) (amounts xs) v
  outflow_cons = sum_by-cons (λ (a : ℕ × ℕ). cond (eqb a.0 v) a.1 0) ((constraint_of s x).source, amount_of x) (zip (map (λ c. c.source) (carriers s xs)) (amounts xs))

-- the live reads of a system are between its images
pub reads_of_system : (s : System) → IsSystem s → AreReadsOf s.stencils.width s.stencils.inputs (image_count s) (placed_reads s)
reads_of_system s is =
    let form = system_form s is in
    let most = form.image_limit in
    record {
      row_limit = form.row_limit;
      counts = record { kept = form.inputs_kept; limit = omega (arith, most) };
      reads_are = form.reads_are;
    }

-- what the limits say of a live read
module _ (s : System) (is : IsSystem s) (r : PlacedRead) (in_it : Contains (placed_reads s) r) where
  pub is_near : IsNear (offset s.stencils.width r)
  is_near = All-contains (λ r. IsNear (offset s.stencils.width r)) (placed_reads s) r (system_form s is).reads_are.near in_it

  pub reader_kept : r.f < image_count s
  reader_kept = All-contains (λ r. r.f < image_count s) (placed_reads s) r (system_form s is).reads_are.among in_it

  pub source_kept : r.g < image_count s
  source_kept =
      let earlier : r.g < r.f = All-contains (λ r. r.g < r.f) (placed_reads s) r (system_form s is).reads_are.earlier in_it in
      omega (arith, earlier, reader_kept)
