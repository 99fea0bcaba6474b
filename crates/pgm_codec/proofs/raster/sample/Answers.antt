use Rattle.std.proofs.Common.{arith, true, false}
use Rattle.pgm_codec.proofs.Sizes.{narrow, wide}
use Rattle.pgm_codec.proofs.Judged.{sample_within, sample_is}
use Rattle.pgm_codec.proofs.raster.sample.Goals as goal

pub bounds-raster-index : goal.bounds-raster-index
bounds-raster-index c =
    let l = sample_within true c.args.bytes.now c.args.header.now c.behind-raster.result.now c.args.index (narrow c.args.header.now.maxval (omega arith)) c.requires.header c.requires.raster c.behind-raster.ensures c.requires.index in
    omega (arith, l)

pub pair-requires : goal.pair-requires
pair-requires c =
    let l = sample_within false c.args.bytes.now c.args.header.now c.behind-raster.result.now c.args.index (wide c.args.header.now.maxval (omega arith)) c.requires.header c.requires.raster c.behind-raster.ensures c.requires.index in
    omega (arith, l)

pub returns-then-header-lt256 : goal.returns-then-header-lt256
returns-then-header-lt256 c =
    sample_is true c.args.bytes.now c.args.header.now c.behind-raster.result.now c.args.index _ (narrow c.args.header.now.maxval (omega arith)) c.requires.header c.behind-raster.ensures c.requires.index c.from.ensures

pub returns-else-header-lt256 : goal.returns-else-header-lt256
returns-else-header-lt256 c =
    sample_is false c.args.bytes.now c.args.header.now c.behind-raster.result.now c.args.index _ (wide c.args.header.now.maxval (omega arith)) c.requires.header c.behind-raster.ensures c.requires.index c.pair.ensures
