use Rattle.dk_base.specs.FrameSizes.{size_of}
use Rattle.pgm_rounds.specs.Files.{Refused}
use Rattle.pgm_rounds.proofs.Errors.{if_err}
use Rattle.pgm_rounds.proofs.image.judge.Goals as goal

pub returns-in_err-header-clause-fault : goal.returns-in_err-header-clause-fault
returns-in_err-header-clause-fault c =
    let size = size_of c.args.size in
    let bits = c.args.width in
    if_err (Refused size bits c.args.place.images c.args.place.offset c.args.rest.now) c.from_residual.result c.in_err-header.field-0.0 c.from_residual.ensures.1 (c.in_err-header.ensures size bits c.args.place.images)

pub returns-in_err-check_header-clause-fault : goal.returns-in_err-check_header-clause-fault
returns-in_err-check_header-clause-fault c =
    if_err (Refused (size_of c.args.size) c.args.width c.args.place.images c.args.place.offset c.args.rest.now) c.from_residual-in_err-check_header.result c.in_err-check_header.field-0.0 c.from_residual-in_err-check_header.ensures.1
    (c.in_err-check_header.ensures.fault c.args.place.images c.args.place.offset)

pub returns-in_err-check_samples-clause-fault : goal.returns-in_err-check_samples-clause-fault
returns-in_err-check_samples-clause-fault c =
    let bits = c.args.width in
    if_err (Refused (size_of c.args.size) bits c.args.place.images c.args.place.offset c.args.rest.now) c.from_residual-in_err-check_samples.result c.in_err-check_samples.field-0.0 c.from_residual-in_err-check_samples.ensures.1
    (c.in_err-check_samples.ensures.fault bits c.args.place.offset c.in_ok-check_header.ensures.headed)
