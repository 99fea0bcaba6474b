use Rattle.std.proofs.Common.{rules, ◌≡◌, ◌<◌, sym, subst, ◌∙◌, arith, IfSome}
use Rattle.dk_desk.specs.Outside.{Input}
use Rattle.dk_base.specs.FrameSizes.{size_of}
use Rattle.row_stream.specs.Formats.{kind_of}
use Rattle.row_stream.specs.Progress.{Goes, Fails, pixel_clocks}
use Rattle.row_stream.specs.Heads.{TakesHead, TakesFitting}
use Rattle.row_stream.specs.ImageReading.{EndsImages, StreamsAll, unread}
use Rattle.row_stream.specs.Whole.{Leaves, write_first}
use Rattle.row_stream.specs.States.{Setting}
use Rattle.row_stream.proofs.RowLemmas.{read_only}
use Rattle.row_stream.proofs.Keeping.{if_err}
use Rattle.row_stream.proofs.Leaving.{leaves_first, leaves_images, leaves_all, fails_behind, taken_out, unless_read}
use Rattle.row_stream.proofs.state.Stream.run.Goals as goal

pub returns-in_err-next_image-clause-err : goal.returns-in_err-next_image-clause-err
returns-in_err-next_image-clause-err g c =
    let outside = g.D.Desk.outside in
    let s = c.args.self.now in
    let kind = kind_of s.format in
    let m = s.sim.netlist in
    let from = s.sim.contents in
    let name = c.args.name.now in
    let old = outside c.args.desk.now in
    let before = outside c.next_image.new.desk in
    let f = c.in_err-next_image.field-0.0 in
    let e = c.in_err-next_image.ensures in
    if_err (λ f. Leaves kind m s.bits c.args.latency f name from old before) c.from_residual.result f c.from_residual.ensures.1
    (leaves_first kind m s.bits c.args.latency name from old before f e.err e.desk.only e.desk.cause.later (λ l. taken_out f (e.desk.cause.always l)))

pub returns-in-Err-clause-err : goal.returns-in-Err-clause-err
returns-in-Err-clause-err g c =
    let outside = g.D.Desk.outside in
    let s = c.args.self.now in
    let kind = kind_of s.format in
    let m = s.sim.netlist in
    let from = s.sim.contents in
    let name = c.args.name.now in
    let old = outside c.args.desk.now in
    let before = outside c.next_image.new.desk in
    let header = c.in-Some.header in
    let next = c.in_ok-next_image.ensures in
    let same : before.input_failures ≡ old.input_failures = search rules in
    let head : TakesFitting (size_of s.format.size) s.bits old.image before.image header = subst (λ z. IfSome z (TakesFitting (size_of s.format.size) s.bits old.image before.image)) c.in-Some.is next.ok in
    let takes = head.takes in
    let fits = head.fits in
    let read = read_only old before next.desk.only same in
    write_first header before takes fits read c.in-Err.ensures.desk.idle c.in-Err.ensures.err

pub returns-in_err-stream_images-clause-err : goal.returns-in_err-stream_images-clause-err
returns-in_err-stream_images-clause-err g c =
    let outside = g.D.Desk.outside in
    let s = c.args.self.now in
    let kind = kind_of s.format in
    let m = s.sim.netlist in
    let from = s.sim.contents in
    let name = c.args.name.now in
    let old = outside c.args.desk.now in
    let before = outside c.next_image.new.desk in
    let header = c.in-Some.header in
    let next = c.in_ok-next_image.ensures in
    let same : before.input_failures ≡ old.input_failures = search rules in
    let head : TakesFitting (size_of s.format.size) s.bits old.image before.image header = subst (λ z. IfSome z (TakesFitting (size_of s.format.size) s.bits old.image before.image)) c.in-Some.is next.ok in
    let takes = head.takes in
    let fits = head.fits in
    let read = read_only old before next.desk.only same in
    let new = c.begin.new.self in
    let reset = outside c.begin.new.desk in
    let begun = c.in-Ok.ensures in
    let b = begun.ok in
    let there : TakesHead header old.image reset.image = subst (λ (z : Input). TakesHead header old.image z) (sym begun.desk.idle) takes in
    let some = (let l : 0 < s.format.size.width = omega (arith, c.requires.start.stream.room.below) in l) in
    let now = outside c.stream_images.new.desk in
    let f = c.in_err-stream_images.field-0.0 in
    let e = c.in_err-stream_images.ensures in
    let here = subst (λ (z : Setting). EndsImages z.kind z.netlist z.bits f old.image.rest new.sim.contents new.line (unread old.image reset) now) begun.keeps.setting (e.err old.image there) in
    if_err (λ f. Leaves kind m s.bits c.args.latency f name from old now) c.from_residual-in_err-stream_images.result f c.from_residual-in_err-stream_images.ensures.1
    (leaves_images kind m s.bits c.args.latency name from new.sim.contents s.line new.line old before b.created b.begun reset c.requires.start.fresh some read b.creates b.header b.goes f now here
    (λ other. unless_read f reset.input_failures now.input_failures e.desk.read.later (λ l. taken_out f (e.desk.read.always l)) other ∙ (begun.desk.no_read ∙ same)))

pub returns-in-Err-flush-clause-err : goal.returns-in-Err-flush-clause-err
returns-in-Err-flush-clause-err g c =
    let outside = g.D.Desk.outside in
    let s = c.args.self.now in
    let kind = kind_of s.format in
    let m = s.sim.netlist in
    let from = s.sim.contents in
    let name = c.args.name.now in
    let old = outside c.args.desk.now in
    let before = outside c.next_image.new.desk in
    let header = c.in-Some.header in
    let next = c.in_ok-next_image.ensures in
    let same : before.input_failures ≡ old.input_failures = search rules in
    let head : TakesFitting (size_of s.format.size) s.bits old.image before.image header = subst (λ z. IfSome z (TakesFitting (size_of s.format.size) s.bits old.image before.image)) c.in-Some.is next.ok in
    let takes = head.takes in
    let fits = head.fits in
    let read = read_only old before next.desk.only same in
    let new = c.begin.new.self in
    let reset = outside c.begin.new.desk in
    let begun = c.in-Ok.ensures in
    let b = begun.ok in
    let there : TakesHead header old.image reset.image = subst (λ (z : Input). TakesHead header old.image z) (sym begun.desk.idle) takes in
    let some = (let l : 0 < s.format.size.width = omega (arith, c.requires.start.stream.room.below) in l) in
    let last = c.stream_images.new.self in
    let half = outside c.stream_images.new.desk in
    let now = outside c.flush.new.desk in
    let images = c.in_ok-stream_images.ensures in
    let all = subst (λ (z : Setting). StreamsAll z.kind z.netlist z.bits old.image.rest new.sim.contents last.sim.contents new.line last.line (unread old.image reset) half) begun.keeps.setting (images.ok old.image there) in
    let e = c.in-Err-flush.ensures in
    let late = subst (λ (z : Setting). Fails z.kind z.netlist (pixel_clocks (λ k. 0) c.args.latency) last.sim.contents last.line half now) (images.keeps.setting ∙ begun.keeps.setting) e.err in
    fails_behind kind m s.bits c.args.latency name from new.sim.contents s.line new.line old before b.created b.begun reset c.requires.start.fresh some read b.creates b.header b.goes last.sim.contents last.line half now all late e.desk.idle

pub returns-in-Ok-flush-clause-ok : goal.returns-in-Ok-flush-clause-ok
returns-in-Ok-flush-clause-ok g c =
    let outside = g.D.Desk.outside in
    let s = c.args.self.now in
    let kind = kind_of s.format in
    let m = s.sim.netlist in
    let from = s.sim.contents in
    let name = c.args.name.now in
    let old = outside c.args.desk.now in
    let before = outside c.next_image.new.desk in
    let header = c.in-Some.header in
    let next = c.in_ok-next_image.ensures in
    let same : before.input_failures ≡ old.input_failures = search rules in
    let head : TakesFitting (size_of s.format.size) s.bits old.image before.image header = subst (λ z. IfSome z (TakesFitting (size_of s.format.size) s.bits old.image before.image)) c.in-Some.is next.ok in
    let takes = head.takes in
    let fits = head.fits in
    let read = read_only old before next.desk.only same in
    let new = c.begin.new.self in
    let reset = outside c.begin.new.desk in
    let begun = c.in-Ok.ensures in
    let b = begun.ok in
    let there : TakesHead header old.image reset.image = subst (λ (z : Input). TakesHead header old.image z) (sym begun.desk.idle) takes in
    let some = (let l : 0 < s.format.size.width = omega (arith, c.requires.start.stream.room.below) in l) in
    let last = c.stream_images.new.self in
    let half = outside c.stream_images.new.desk in
    let now = outside c.flush.new.desk in
    let images = c.in_ok-stream_images.ensures in
    let all = subst (λ (z : Setting). StreamsAll z.kind z.netlist z.bits old.image.rest new.sim.contents last.sim.contents new.line last.line (unread old.image reset) half) begun.keeps.setting (images.ok old.image there) in
    let e = c.in-Ok-flush.ensures in
    let late = subst (λ (z : Setting). Goes z.kind z.netlist (pixel_clocks (λ k. 0) c.args.latency) last.sim.contents c.flush.new.self.sim.contents last.line c.flush.new.self.line half now) (images.keeps.setting ∙ begun.keeps.setting) e.ok in
    leaves_all kind m s.bits c.args.latency name from new.sim.contents s.line new.line old before b.created b.begun reset c.requires.start.fresh some read b.creates b.header b.goes last.sim.contents c.flush.new.self.sim.contents last.line c.flush.new.self.line half now all late e.desk.idle
