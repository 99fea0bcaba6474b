use Rattle.std.proofs.Common.{◌<◌, length, arith}
use Rattle.dk_inline.proofs.FoldedPrograms.{folds_more, rest_stays}
use Rattle.dk_inline.proofs.fold.fold_images.Goals as goal

pub loop-image-preserved : goal.loop-image-preserved
loop-image-preserved c =
    let within : c.loop-image.image-index < length c.loop-image.images = omega (arith, c.loop-image-test.true, c.loop-image.auto.images) in
    record {
      done = folds_more c.args.images.now c.loop-image.images c.loop-image.image-index c.image-item.result c.fold_image.new.image within c.fold_image.ensures c.loop-image.invariant.done c.loop-image.invariant.rest;
      rest = rest_stays c.args.images.now c.loop-image.images c.loop-image.image-index c.fold_image.new.image c.loop-image.invariant.rest;
    }
