use Rattle.std.proofs.Common.{arith}
use Rattle.report_text.specs.declared.report.ImageLine.{ImageLine}
use Rattle.report_text.specs.Reports.{parts_of}
use Rattle.report_text.proofs.Lines.{image_more}
use Rattle.report_text.proofs.step.image.Goals as goal

pub returns-in_ok-push-in-None : goal.returns-in_ok-push-in-None
returns-in_ok-push-in-None c =
    let j : ImageLine = record { name = c.in-Some.parts.name.now; width = c.in-Some.parts.width; delay = c.in-Some.parts.delay; depth = c.in-Some.parts.depth } in
    image_more (parts_of c.args.report.now) c.args.line.now c.in_ok-owned-in-None.field-0 j c.deref.result.now c.push.new.self.items c.in-Some.ensures c.in_ok-owned-in-None.ensures (omega arith) c.deref.ensures.value c.in-None.ensures c.in_ok-push-in-None.ensures.items
