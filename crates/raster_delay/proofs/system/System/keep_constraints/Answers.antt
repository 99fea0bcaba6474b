use Rattle.std.proofs.Common.{◌≡◌, ◌+◌, ◌-◌, length, drop, arith, ap, ◌∙◌}
use Rattle.std.specs.Prelude.{map}
use Rattle.raster_delay.specs.Delays.{keep}
use Rattle.raster_delay.specs.Systems.{image_count, placed_reads}
use Rattle.raster_delay.proofs.Places.{system_form}
use Rattle.raster_delay.proofs.Parts.{length_all, drop_keeps}
use Rattle.raster_delay.proofs.Lists.{keeps_ends, keeps_bounded}
use Rattle.raster_delay.proofs.system.System.keep_constraints.Goals as goal

pub split_at-requires : goal.split_at-requires
split_at-requires c =
    let s = c.args.self.now in
    omega (arith, ap length c.images-images.ensures, c.inputs.ensures, ap length c.placed_reads.ensures, length_all s.stencils.width s.age s.stencils.inputs (image_count s) (placed_reads s) (system_form s c.law.ensures).inputs_kept, ap length c.constraints.ensures.form)

pub returns : goal.returns
returns c =
    let s = c.args.self.now in
    let n = image_count s in
    let w = s.stencils.width in
    let inputs = s.stencils.inputs in
    let reads = placed_reads s in
    let form = system_form s c.law.ensures in
    let first = n + (n - inputs) + length reads in
    let at : length c.images-images.result.now + (length c.images-images.result.now - c.inputs.result) + length c.placed_reads.result.now ≡ first =
    omega (arith, ap length c.images-images.ensures, c.inputs.ensures, ap length c.placed_reads.ensures) in
    let items : c.split_at.result.1.now ≡ map (keep w inputs n) reads =
    c.split_at.ensures.back ∙ ap (λ k. drop k c.constraints.result.now) at ∙ ap (drop first) c.constraints.ensures.form ∙ drop_keeps w s.age inputs n reads form.inputs_kept in
    record {
      items = items;
      ends = rw items (keeps_ends w s.age inputs n reads form.reads_are form.inputs_kept form.age_limit);
      bounds = rw items (keeps_bounded w s.age inputs n reads form.reads_are form.inputs_kept form.age_limit form.count);
    }
