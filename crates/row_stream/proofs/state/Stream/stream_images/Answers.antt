use Rattle.std.proofs.Common.{rules, refl, ap, ◌≡◌, ◌<◌, ◌+◌, Ok, IfSome, subst, sym, arith}
use Rattle.dk_base.specs.declared.TheConstants.{MAX_FILE_IMAGES}
use Rattle.dk_base.specs.FrameSizes.{size_of}
use Rattle.dk_desk.specs.Outside.{Input}
use Rattle.row_stream.specs.Formats.{kind_of}
use Rattle.row_stream.specs.Heads.{TakesHead, TakesFitting, FitsHeader}
use Rattle.row_stream.specs.RowReading.{Streams}
use Rattle.row_stream.specs.ImageReading.{EndsImage, EndsImages, found_behind, unread}
use Rattle.row_stream.specs.States.{Setting}
use Rattle.row_stream.proofs.ImageEnds.{stands_none, stands_more, ends_behind, ends_image, streams_all}
use Rattle.row_stream.proofs.Keeping.{if_err, keeps_none, keeps_then}
use Rattle.row_stream.proofs.state.Stream.stream_images.Goals as goal

pub loop-images-init : goal.loop-images-init
loop-images-init g c =
    let old = c.args.self.now in
    record {
      opened = c.requires.opened;
      keeps = keeps_none old c.requires.ready.stream;
      ready = c.requires.ready;
      few = omega (arith, c.requires.few);
      inside = omega arith;
      fits = c.requires.header;
      small = omega arith;
      no_read = refl;
      no_failure = refl;
      stands = λ before t. stands_none (kind_of old.format) old.sim.netlist old.bits c.args.first old.sim.contents old.line before (g.D.Desk.outside c.args.desk.now) t;
    }

pub stream_image-requires-clause-can : goal.stream_image-requires-clause-can
stream_image-requires-clause-can g c =
    let inv = c.loop-images.invariant in
    record {
      opened = inv.opened;
      ready = inv.ready;
      few = omega (arith, inv.few, inv.inside);
      header = subst (λ (z : Setting). FitsHeader z.kind.size z.bits c.loop-images.header) (sym inv.keeps.setting) inv.fits;
    }

pub returns-in_err-stream_image-clause-keeps : goal.returns-in_err-stream_image-clause-keeps
returns-in_err-stream_image-clause-keeps g c = keeps_then c.args.self.now c.loop-images.self c.stream_image.new.self c.loop-images.invariant.keeps c.in_err-stream_image.ensures.keeps

pub returns-in_err-stream_image-clause-err : goal.returns-in_err-stream_image-clause-err
returns-in_err-stream_image-clause-err g c =
    let inv = c.loop-images.invariant in
    let old = c.args.self.now in
    let mid = c.loop-images.self in
    let new = c.stream_image.new.self in
    let kind = kind_of old.format in
    let m = old.sim.netlist in
    let header = c.loop-images.header in
    let half = g.D.Desk.outside c.loop-images.desk in
    let now = g.D.Desk.outside c.stream_image.new.desk in
    let f = c.in_err-stream_image.field-0.0 in
    let here = subst (λ (z : Setting). EndsImage z.kind z.netlist header z.bits c.loop-images.images f mid.sim.contents mid.line half now) inv.keeps.setting c.in_err-stream_image.ensures.err in
    if_err (λ e. (before : Input) → TakesHead c.args.first before (g.D.Desk.outside c.args.desk.now).image → EndsImages kind m old.bits e before.rest old.sim.contents old.line (unread before (g.D.Desk.outside c.args.desk.now)) now) c.from_residual.result f c.from_residual.ensures.1
    (λ before t. ends_image kind m old.bits c.loop-images.images c.loop-images.offset f header before.rest old.sim.contents mid.sim.contents old.line mid.line
    (unread before (g.D.Desk.outside c.args.desk.now)) half now inv.fits inv.inside (inv.stands before t) here)

pub returns-in_err-further_image-clause-keeps : goal.returns-in_err-further_image-clause-keeps
returns-in_err-further_image-clause-keeps g c = keeps_then c.args.self.now c.loop-images.self c.stream_image.new.self c.loop-images.invariant.keeps c.in_ok-stream_image.ensures.keeps

pub returns-in_err-further_image-clause-err : goal.returns-in_err-further_image-clause-err
returns-in_err-further_image-clause-err g c =
    let inv = c.loop-images.invariant in
    let old = c.args.self.now in
    let mid = c.loop-images.self in
    let new = c.stream_image.new.self in
    let kind = kind_of old.format in
    let m = old.sim.netlist in
    let header = c.loop-images.header in
    let half = g.D.Desk.outside c.loop-images.desk in
    let now = g.D.Desk.outside c.stream_image.new.desk in
    let here = subst (λ (z : Setting). Streams z.kind z.netlist header header.height mid.sim.contents new.sim.contents mid.line new.line half now) inv.keeps.setting c.in_ok-stream_image.ensures.ok in
    let later = g.D.Desk.outside c.further_image.new.desk in
    let f = c.in_err-further_image.field-0.0 in
    if_err (λ e. (before : Input) → TakesHead c.args.first before (g.D.Desk.outside c.args.desk.now).image → EndsImages kind m old.bits e before.rest old.sim.contents old.line (unread before (g.D.Desk.outside c.args.desk.now)) later) c.from_residual-in_err-further_image.result f c.from_residual-in_err-further_image.ensures.1
    (λ before t. found_behind
    (ends_behind kind m old.bits c.loop-images.images c.loop-images.offset header before.rest old.sim.contents mid.sim.contents old.line mid.line (unread before (g.D.Desk.outside c.args.desk.now)) half now
    inv.fits (inv.stands before t) new.sim.contents new.line here (c.loop-images.offset + c.image_bytes-offset.result) (ap (λ z. c.loop-images.offset + z) c.image_bytes-offset.ensures.is)
    f later c.in_err-further_image.ensures.next.desk.only c.in_err-further_image.ensures.next.err))

pub returns-in-None-clause-keeps : goal.returns-in-None-clause-keeps
returns-in-None-clause-keeps g c = keeps_then c.args.self.now c.loop-images.self c.stream_image.new.self c.loop-images.invariant.keeps c.in_ok-stream_image.ensures.keeps

pub returns-in-None-clause-ok : goal.returns-in-None-clause-ok
returns-in-None-clause-ok g c before t =
    let inv = c.loop-images.invariant in
    let old = c.args.self.now in
    let mid = c.loop-images.self in
    let new = c.stream_image.new.self in
    let kind = kind_of old.format in
    let m = old.sim.netlist in
    let header = c.loop-images.header in
    let half = g.D.Desk.outside c.loop-images.desk in
    let now = g.D.Desk.outside c.stream_image.new.desk in
    let here = subst (λ (z : Setting). Streams z.kind z.netlist header header.height mid.sim.contents new.sim.contents mid.line new.line half now) inv.keeps.setting c.in_ok-stream_image.ensures.ok in
    streams_all kind m old.bits c.loop-images.images c.loop-images.offset header before.rest old.sim.contents mid.sim.contents old.line mid.line (unread before (g.D.Desk.outside c.args.desk.now)) half
    now inv.fits (inv.stands before t) new.sim.contents new.line here inv.inside (g.D.Desk.outside c.further_image.new.desk)
    (c.in_ok-further_image.ensures.next.none (ap (λ z. Ok z) c.in-None.is)).same (c.in_ok-further_image.ensures.next.none (ap (λ z. Ok z) c.in-None.is)).end

pub loop-images-preserved : goal.loop-images-preserved
loop-images-preserved g c =
    let inv = c.loop-images.invariant in
    let old = c.args.self.now in
    let mid = c.loop-images.self in
    let new = c.stream_image.new.self in
    let kind = kind_of old.format in
    let m = old.sim.netlist in
    let header = c.loop-images.header in
    let half = g.D.Desk.outside c.loop-images.desk in
    let now = g.D.Desk.outside c.stream_image.new.desk in
    let here = subst (λ (z : Setting). Streams z.kind z.netlist header header.height mid.sim.contents new.sim.contents mid.line new.line half now) inv.keeps.setting c.in_ok-stream_image.ensures.ok in
    let later = g.D.Desk.outside c.further_image.new.desk in
    let next = c.in-Some.next in
    let ok = c.in_ok-stream_image.ensures in
    let head : TakesFitting (size_of old.format.size) old.bits now.image later.image next = subst (λ z. IfSome z (TakesFitting (size_of old.format.size) old.bits now.image later.image)) c.in-Some.is c.in_ok-further_image.ensures.next.ok in
    let same : later.input_failures ≡ now.input_failures = search rules in
    record {
      opened = search rules;
      keeps = keeps_then old mid new inv.keeps ok.keeps;
      ready = record { stream = ok.more.ready.stream; created = search rules; lasts = ok.more.ready.lasts };
      few = omega (arith, ok.more.few, inv.few);
      inside = subst (λ z. IfSome z (λ _. c.loop-images.images + 1 < MAX_FILE_IMAGES)) c.in-Some.is c.in_ok-further_image.ensures.few;
      fits = head.fits;
      small = omega (arith, inv.small, c.image_bytes-offset.ensures.most, inv.fits.length);
      no_read = search rules;
      no_failure = search rules;
      stands = λ before t.
          stands_more kind m old.bits c.loop-images.images c.loop-images.offset header before.rest old.sim.contents mid.sim.contents old.line mid.line (unread before (g.D.Desk.outside c.args.desk.now)) half
          now inv.fits (inv.stands before t) new.sim.contents new.line here (c.loop-images.offset + c.image_bytes-offset.result) (ap (λ z. c.loop-images.offset + z) c.image_bytes-offset.ensures.is)
          next later head.takes c.in_ok-further_image.ensures.next.desk.only same;
    }
