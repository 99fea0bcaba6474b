use Rattle.std.proofs.Common.{refl, ◌∷◌, [], arith, length-append}
use Rattle.std.proofs.lemmas.Option.{slice_get_read}
use Rattle.value_ranges.proofs.Imaged.{inputs_between, image_type, images_more, image_more}
use Rattle.value_ranges.proofs.images.image_ranges.Goals as goal

pub loop-image-init : goal.loop-image-init
loop-image-init c =
    let count = rw c.inputs.ensures at c.in_ok-ranges.ensures.count in
    let types = rw c.inputs.ensures at c.in_ok-ranges.ensures.types in
    record {
      exact = rw c.inputs.ensures at c.in_ok-ranges.ensures.exact;
      count = omega (arith, count);
      within = inputs_between c.args.ir.now c.in_ok-ranges.ranges.items count types;
    }

pub image_range-range-requires : goal.image_range-range-requires
image_range-range-requires c =
    let there = rw c.images-images.ensures at (slice_get_read c.images-images.result.now _ c.loop-image.image-index c.image-item.result refl c.loop-image-test.true c.image-item.is) in
    image_type c.args.ir.now c.loop-image.image-index c.image-item.result c.law.ensures there

pub loop-image-preserved : goal.loop-image-preserved
loop-image-preserved c =
    let there = rw c.images-images.ensures at (slice_get_read c.images-images.result.now _ c.loop-image.image-index c.image-item.result refl c.loop-image-test.true c.image-item.is) in
    let longer = length-append c.loop-image.ranges.items (c.image_range-range.result ∷ []) in
    let count = c.loop-image.invariant.count in
    let made = rw c.deref.ensures.value at c.image_range-range.ensures.within in
    let is = rw c.deref.ensures.value at c.image_range-range.ensures.exact in
    rw c.in_ok-push.ensures.items
    (record {
      exact = image_more _ c.args.ir.now.images c.loop-image.ranges.items _ c.loop-image.image-index c.image-item.result c.image_range-range.result there is c.loop-image.invariant.exact refl;
      count = omega (arith, longer, count);
      within = images_more c.args.ir.now c.loop-image.ranges.items c.loop-image.image-index c.image-item.result c.image_range-range.result c.law.ensures count there made c.loop-image.invariant.within;
    })
