use Rattle.dk_base.specs.FrameSizes.{size_of}
use Rattle.pgm_rounds.proofs.Rasters.{next_is}
use Rattle.pgm_rounds.proofs.image.read_image.Goals as goal

pub returns-clause-next : goal.returns-clause-next
returns-clause-next c =
    let a = c.in_ok-header.ensures.accepted in
    next_is c.one_answer_law.ensures.header (size_of c.args.size) c.args.width c.args.rest.now c.in_ok-header.header c.raster_length.result c.in_ok-samples.samples a c.raster_length.ensures
    (c.in_ok-samples.ensures a.samples a.begins)
