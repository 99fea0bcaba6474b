-- The constraints of a system are a network between its nodes, and they are few.
use Rattle.std.proofs.Common.{◌≤◌, ◌^◌, length, arith}
use Rattle.raster_delay.specs.Systems.{System, IsSystem, image_count, nodes, widths, placed_reads, constraints_in}
use Rattle.raster_delay.proofs.Parts.{length_all}
use Rattle.raster_delay.proofs.Places.{system_form}
use Rattle.raster_delay.proofs.Within.{within_all, small_all}
use Rattle.flow_dual.specs.Tree.{IsNetwork}

module _ (s : System) (is : IsSystem s) where
  pub network_in : IsNetwork (nodes s) (constraints_in s)
  network_in =
      let within = within_all s.stencils.width s.age s.stencils.inputs (image_count s) (widths s) (placed_reads s) (system_form s is) in
      record {
        sources = within.sources;
        targets = within.targets;
        costs = small_all s.stencils.width s.age s.stencils.inputs (image_count s) (widths s) (placed_reads s) (system_form s is);
      }

  pub few_in : length (constraints_in s) ≤ 2 ^ 14
  few_in =
      let form = system_form s is in
      omega (arith, length_all s.stencils.width s.age s.stencils.inputs (image_count s) (placed_reads s) form.inputs_kept, form.image_limit, form.count)
