use Rattle.std.proofs.Common.{◌≡◌, ◌∙◌, ◌<◌, ◌≤◌, sym, ap, refl, subst, arith}
use Rattle.std.proofs.lemmas.Result.{IfOk-weaker, IfErr-weaker}
use Rattle.dk_base.specs.FrameSizes.{size_of}
use Rattle.pgm_rounds.specs.Ports.{ports_with}
use Rattle.pgm_rounds.specs.Files.{IsError, frames_of}
use Rattle.pgm_rounds.proofs.Steps.{starts}
use Rattle.pgm_rounds.proofs.Endings.{ends_in_round, too_many, whole_file, port_rounds}
use Rattle.pgm_rounds.proofs.rounds.read_rounds.Goals as goal

pub loop-init : goal.loop-init
loop-init c =
    let new = c.new-reading.result in
    let e = c.new-reading.ensures in
    record {
      images = e.images;
      goes_on = λ some. absurd (omega (arith, some, e.images));
      stands = starts (ports_with (size_of c.args.size) c.args.widths.now) c.args.bytes.now new.rounds.items new.frames.items new.place.images new.place.offset c.requires.some e.rounds e.frames e.images e.offset;
    }

pub returns-then-reading-bytes-clause-fits : goal.returns-then-reading-bytes-clause-fits
returns-then-reading-bytes-clause-fits c =
    let new = c.read_next.new.self in
    let s = c.in_ok-read_next.ensures.stands in
    let some : 0 < new.place.images = omega (arith, c.in_ok-read_next.ensures.images) in
    let few : new.place.images ≤ 65536 = omega (arith, c.in_ok-read_next.ensures.images) in
    IfOk-weaker c.finish.result _ _ (λ rounds e.
    (s.rounds, whole_file (ports_with (size_of c.args.size) c.args.widths.now) c.args.bytes.now (frames_of new.rounds.items) new.frames.items new.place.images new.place.offset s c.if-reading-bytes.true some few e.1, ap (λ (x : _). frames_of x) e.0 ∙ s.read_is)) c.finish.ensures.rounds

pub returns-then-reading-bytes-clause-frames : goal.returns-then-reading-bytes-clause-frames
returns-then-reading-bytes-clause-frames c =
    let new = c.read_next.new.self in
    let s = c.in_ok-read_next.ensures.stands in
    let some : 0 < new.place.images = omega (arith, c.in_ok-read_next.ensures.images) in
    let few : new.place.images ≤ 65536 = omega (arith, c.in_ok-read_next.ensures.images) in
    IfOk-weaker c.finish.result _ _ (λ rounds e.
    port_rounds (ports_with (size_of c.args.size) c.args.widths.now) c.args.bytes.now rounds.items s.rounds (ap (λ (x : _). frames_of x) e.0 ∙ s.read_is)
    (whole_file (ports_with (size_of c.args.size) c.args.widths.now) c.args.bytes.now (frames_of new.rounds.items) new.frames.items new.place.images new.place.offset s c.if-reading-bytes.true some few e.1)) c.finish.ensures.rounds

pub returns-then-reading-bytes-clause-fault : goal.returns-then-reading-bytes-clause-fault
returns-then-reading-bytes-clause-fault c =
    let new = c.read_next.new.self in
    let s = c.in_ok-read_next.ensures.stands in
    let few : new.place.images ≤ 65536 = omega (arith, c.in_ok-read_next.ensures.images) in
    IfErr-weaker c.finish.result _ _ (λ e is.
    subst (λ f. IsError (ports_with (size_of c.args.size) c.args.widths.now) c.args.bytes.now f) (sym is.0)
    (ends_in_round (ports_with (size_of c.args.size) c.args.widths.now) c.args.bytes.now (frames_of new.rounds.items) new.frames.items new.place.images new.place.offset s c.if-reading-bytes.true few is.1, refl))
    c.finish.ensures.begun

pub returns-clause-fault : goal.returns-clause-fault
returns-clause-fault c =
    let r = c.loop.reading in
    let full : r.place.images ≡ 65536 = omega (arith, c.loop.invariant.images) in
    let some : 0 < r.place.images = omega (arith, full) in
    too_many (ports_with (size_of c.args.size) c.args.widths.now) c.args.bytes.now (frames_of r.rounds.items) r.frames.items r.place.images r.place.offset c.loop.invariant.stands full (c.loop.invariant.goes_on some)
