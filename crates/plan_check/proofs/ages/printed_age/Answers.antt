use Rattle.std.proofs.Common.{◌≡◌, arith, slice_index, slice_index_or}
use Rattle.std.proofs.lemmas.Int.{ints}
use Rattle.std.proofs.lemmas.List.{get_or-map}
use Rattle.report_text.specs.declared.report.ImageLine.{ImageLine}
use Rattle.plan_check.specs.Holding.{delays_of}
use Rattle.plan_check.proofs.ages.printed_age.Goals as goal

pub returns : goal.returns
returns c =
    let images = c.args.images.now in
    let one = c.index-images-r.result in
    let other = c.index-images-r-2.result in
    let reader : slice_index (delays_of images) c.args.r.f ≡ (slice_index_or images c.args.r.f one).delay = get_or-map (λ (i : ImageLine). i.delay) images c.args.r.f one 0 c.requires.reader in
    let source : slice_index (delays_of images) c.args.r.g ≡ (slice_index_or images c.args.r.g other).delay = get_or-map (λ (i : ImageLine). i.delay) images c.args.r.g other 0 c.requires.source in
    omega (arith, ints, c.age.ensures, reader, source)
