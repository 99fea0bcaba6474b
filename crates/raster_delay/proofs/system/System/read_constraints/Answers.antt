use Rattle.std.proofs.Common.{◌≡◌, ◌+◌, ◌-◌, length, take, drop, arith, ap, ◌∙◌}
use Rattle.std.specs.Prelude.{map}
use Rattle.raster_delay.specs.Delays.{read}
use Rattle.raster_delay.specs.Systems.{image_count, placed_reads}
use Rattle.raster_delay.proofs.Places.{system_form}
use Rattle.raster_delay.proofs.Parts.{length_all, take_reads}
use Rattle.raster_delay.proofs.Lists.{reads_later, reads_bounded}
use Rattle.raster_delay.proofs.system.System.read_constraints.Goals as goal

pub split_at-requires : goal.split_at-requires
split_at-requires c =
    let s = c.args.self.now in
    omega (arith, ap length c.images-images.ensures, c.inputs.ensures, length_all s.stencils.width s.age s.stencils.inputs (image_count s) (placed_reads s) (system_form s c.law.ensures).inputs_kept, ap length c.constraints.ensures.form)

pub split_at-requires-2 : goal.split_at-requires-2
split_at-requires-2 c =
    let s = c.args.self.now in
    omega (
      arith,
      ap length c.images-images.ensures,
      c.inputs.ensures,
      ap length c.placed_reads.ensures,
      length_all s.stencils.width s.age s.stencils.inputs (image_count s) (placed_reads s) (system_form s c.law.ensures).inputs_kept,
      ap length c.constraints.ensures.form,
      c.split_at.ensures.back_len,
    )

pub returns : goal.returns
returns c =
    let s = c.args.self.now in
    let n = image_count s in
    let w = s.stencils.width in
    let inputs = s.stencils.inputs in
    let reads = placed_reads s in
    let form = system_form s c.law.ensures in
    let first = n + (n - inputs) in
    let at : length c.images-images.result.now + (length c.images-images.result.now - c.inputs.result) ≡ first = omega (arith, ap length c.images-images.ensures, c.inputs.ensures) in
    let rest : c.split_at.result.1.now ≡ drop first c.constraints.result.now = c.split_at.ensures.back ∙ ap (λ k. drop k c.constraints.result.now) at in
    let items : c.split_at-2.result.0.now ≡ map (read w s.age inputs) reads =
    c.split_at-2.ensures.front ∙ ap (λ k. take k c.split_at.result.1.now) (ap length c.placed_reads.ensures)
    ∙ ap (take (length reads)) (rest ∙ ap (drop first) c.constraints.ensures.form)
    ∙ take_reads w s.age inputs n reads form.inputs_kept in
    record {
      items = items;
      later = rw items (reads_later w s.age inputs n reads form.reads_are form.inputs_kept form.age_limit);
      bounds = rw items (reads_bounded w s.age inputs n reads form.reads_are form.inputs_kept form.age_limit form.count);
    }
