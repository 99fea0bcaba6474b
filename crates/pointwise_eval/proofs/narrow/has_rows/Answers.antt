use Rattle.std.proofs.Common.{refl}
use Rattle.std.proofs.lemmas.Option.{slice_get_read}
use Rattle.pointwise_eval.proofs.narrow.has_rows.Goals as goal

pub returns-then-image-planes : goal.returns-then-image-planes
returns-then-image-planes c = λ yes.
    let there = slice_get_read c.args.planes.now _ c.args.image c.index-planes-image.result refl c.if-image-planes.true c.index-planes-image.is in
    record { plane = c.index-planes-image.result; there = there; rows = c.is_narrow.ensures yes }
