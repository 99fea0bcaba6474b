use Rattle.std.proofs.Common.{◌≡◌, length, take, arith, ap, ◌∙◌}
use Rattle.raster_delay.specs.Delays.{holds_of}
use Rattle.raster_delay.specs.Systems.{image_count, placed_reads}
use Rattle.raster_delay.proofs.Places.{system_form}
use Rattle.raster_delay.proofs.Parts.{length_all, take_holds}
use Rattle.raster_delay.proofs.Lists.{holds_ends, holds_bounded}
use Rattle.raster_delay.proofs.system.System.hold_constraints.Goals as goal

pub split_at-requires : goal.split_at-requires
split_at-requires c =
    let s = c.args.self.now in
    omega (arith, ap length c.images-images.ensures, length_all s.stencils.width s.age s.stencils.inputs (image_count s) (placed_reads s) (system_form s c.law.ensures).inputs_kept, ap length c.constraints.ensures.form)

pub returns : goal.returns
returns c =
    let s = c.args.self.now in
    let n = image_count s in
    let inputs = s.stencils.inputs in
    let form = system_form s c.law.ensures in
    let items : c.split_at.result.0.now ≡ holds_of inputs n =
    c.split_at.ensures.front ∙ ap (λ k. take k c.constraints.result.now) (ap length c.images-images.ensures) ∙ ap (take n) c.constraints.ensures.form
    ∙ take_holds s.stencils.width s.age inputs n (placed_reads s) form.inputs_kept in
    record {
      items = items;
      ends = rw items (holds_ends inputs n form.inputs_kept);
      bounds = rw items (holds_bounded inputs n form.inputs_kept form.image_limit);
    }
