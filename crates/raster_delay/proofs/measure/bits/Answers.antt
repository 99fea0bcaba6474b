use Rattle.std.proofs.Common.{◌≡◌, ◌≤◌, ◌<◌, ◌*◌, length, slice_index, slice_index_or, arith, ap, sym, ◌∙◌}
use Rattle.std.proofs.Math.Nat.{mul-le-mul_right}
use Rattle.std.proofs.lemmas.List.{get_or-map, length-map}
use Rattle.dk_base.specs.declared.stencils.Image.{Image}
use Rattle.raster_delay.specs.Systems.{image_count, widths, placed_reads}
use Rattle.raster_delay.proofs.Places.{system_form}
use Rattle.raster_delay.proofs.Bridge.{bits-more, bits-all}
use Rattle.raster_delay.proofs.measure.bits.Goals as goal

pub loop-g-preserved : goal.loop-g-preserved
loop-g-preserved c =
    let s = c.args.system.now in
    let d = c.args.delays.now in
    let g = c.loop-g.g in
    let none : Image = record { number = 0; width = 0 } in
    let size : length c.images-images.result.now ≡ image_count s = ap length c.images-images.ensures in
    let below : g < image_count s = omega (arith, size) in
    let listed : g < length (widths s) = omega (arith, below, length-map s.stencils.images (λ (i : Image). i.width)) in
    let at : (slice_index_or c.images-images.result.now g none).width ≡ slice_index (widths s) g =
    ap (λ xs. (slice_index_or xs g none).width) c.images-images.ensures ∙ sym (get_or-map (λ (i : Image). i.width) s.stencils.images g none 0 below) in
    let width : c.from.result ≡ slice_index (widths s) g = c.from.ensures ∙ at in
    let narrow : slice_index (widths s) g ≤ 64 = (system_form s c.law.ensures).bits g 0 listed in
    let deep = c.depth.ensures.near in
    let times : c.from.result * c.depth.result ≤ 64 * c.depth.result = mul-le-mul_right c.depth.result (omega (arith, width, narrow)) in
    record {
      sum = omega (
        arith,
        c.loop-g.invariant.sum,
        bits-more s.stencils.width d (placed_reads s) (widths s) g listed,
        ap (λ w. w * c.depth.result) width,
        ap (λ x. slice_index (widths s) g * x) c.depth.ensures.value,
      );
      near = omega (arith, c.loop-g.invariant.near, times, deep);
    }

pub returns : goal.returns
returns c =
    let s = c.args.system.now in
    let end : length (widths s) ≤ c.loop-g.g = omega (arith, ap length c.images-images.ensures, length-map s.stencils.images (λ (i : Image). i.width)) in
    c.loop-g.invariant.sum ∙ bits-all s.stencils.width c.args.delays.now (placed_reads s) (widths s) c.loop-g.g end
