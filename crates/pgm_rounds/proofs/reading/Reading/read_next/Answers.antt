use Rattle.std.proofs.Common.{◌≡◌, ap, refl, slice_index, length, rules}
use Rattle.dk_base.specs.FrameSizes.{size_of}
use Rattle.pgm_rounds.specs.Ports.{ports_with}
use Rattle.pgm_rounds.specs.Files.{IsError, frames_of}
use Rattle.pgm_rounds.proofs.Errors.{if_err}
use Rattle.pgm_rounds.proofs.Steps.{error_next, stands_next}
use Rattle.pgm_rounds.proofs.reading.Reading.read_next.Goals as goal

pub returns-in_err-image-clause-fault : goal.returns-in_err-image-clause-fault
returns-in_err-image-clause-fault c =
    let old = c.args.self.now in
    let ports = ports_with (size_of c.args.size) c.args.widths.now in
    let at : c.len.result ≡ length old.frames.items = search rules in
    if_err (IsError ports c.args.bytes.now) c.from_residual.result c.in_err-image.field-0.0 c.from_residual.ensures.1
    (error_next ports c.args.bytes.now (frames_of old.rounds.items) old.frames.items old.place.images old.place.offset c.requires.stands c.len.result at (slice_index c.args.widths.now c.len.result) refl
    c.split_at.result.1.now c.split_at.ensures.back c.in_err-image.field-0.0 c.requires.few c.requires.some c.in_err-image.ensures.refusal)

pub returns-clause-stands : goal.returns-clause-stands
returns-clause-stands c =
    let old = c.args.self.now in
    let ports = ports_with (size_of c.args.size) c.args.widths.now in
    let at : c.len.result ≡ length old.frames.items = search rules in
    let new = c.add.new.self in
    let e = c.in_ok-add.ensures in
    stands_next ports c.args.bytes.now (frames_of old.rounds.items) old.frames.items old.place.images old.place.offset c.requires.stands c.len.result at (slice_index c.args.widths.now c.len.result) refl
    c.split_at.result.1.now c.split_at.ensures.back c.in_ok-image.image.length c.in_ok-image.image.frame c.in_ok-image.ensures.next
    (frames_of new.rounds.items) new.frames.items new.place.images new.place.offset (ap (λ (x : _). x.images) e.place) (ap (λ (x : _). x.offset) e.place) e.begun e.kept e.fresh e.whole
