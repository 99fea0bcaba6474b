use Rattle.std.proofs.Common.{◌<◌, arith, length, refl, Err}
use Rattle.pgm_codec.specs.declared.raster.RasterFault.TheVariants.{SampleTooGreat, Short}
use Rattle.pgm_codec.specs.Rasters.{TooGreat, TooShort}
use Rattle.pgm_codec.proofs.Judged.{one_raster_answer, seen_is, too_great, too_short, begins_image}
use Rattle.pgm_codec.proofs.raster.check_raster.Goals as goal

pub returns-in-Some-clause-judged : goal.returns-in-Some-clause-judged
returns-in-Some-clause-judged c =
    let bytes = c.args.bytes.now in
    let h = c.args.header.now in
    too_great bytes h c.first_bytes-seen.result.now c.in-Some.index (seen_is bytes h _ _ _ c.first_bytes-seen.ensures c.raster_length-need.ensures c.behind.ensures) c.in-Some.ensures

pub returns-in-Some-clause-only : goal.returns-in-Some-clause-only
returns-in-Some-clause-only c =
    let bytes = c.args.bytes.now in
    let h = c.args.header.now in
    let is : TooGreat bytes h c.in-Some.index = too_great bytes h c.first_bytes-seen.result.now c.in-Some.index (seen_is bytes h _ _ _ c.first_bytes-seen.ensures c.raster_length-need.ensures c.behind.ensures) c.in-Some.ensures in
    λ other j. one_raster_answer bytes h c.requires other (Err (SampleTooGreat c.in-Some.index)) j is

pub returns-then-held-need-clause-only : goal.returns-then-held-need-clause-only
returns-then-held-need-clause-only c =
    let bytes = c.args.bytes.now in
    let h = c.args.header.now in
    let seen = c.first_bytes-seen.result.now in
    let need = c.raster_length-need.result in
    let short : length seen < need = omega arith in
    let is : TooShort bytes h (length seen) need =
    too_short bytes h seen (length seen) need (seen_is bytes h _ _ _ c.first_bytes-seen.ensures c.raster_length-need.ensures c.behind.ensures) refl c.raster_length-need.ensures short c.in-None.ensures in
    λ other j. one_raster_answer bytes h c.requires other (Err (Short (length seen) need)) j is

pub returns-else-held-need-clause-judged : goal.returns-else-held-need-clause-judged
returns-else-held-need-clause-judged c =
    let bytes = c.args.bytes.now in
    let h = c.args.header.now in
    begins_image bytes h c.first_bytes-seen.result.now (λ i. omega (arith, c.type_inv.bytes i)) c.requires
    (seen_is bytes h _ _ _ c.first_bytes-seen.ensures c.raster_length-need.ensures c.behind.ensures) (omega (arith, c.raster_length-need.ensures)) c.in-None.ensures
