use Rattle.std.proofs.Common.{◌∙◌, sym}
use Rattle.vcd_trace.proofs.Headings.{gives}
use Rattle.vcd_trace.proofs.again.replay.Goals as goal

pub returns-clause-accepts : goal.returns-clause-accepts
returns-clause-accepts c clocks t =
    gives c.args.module.now c.deref.result.now c.deref-2.result.now c.args.text.now clocks c.read_text.result
    (sym (c.deref-2.ensures.value ∙ c.in-Ok-widths_of.ensures)) (sym (c.deref.ensures.value ∙ c.in-Ok.ensures)) c.read_text.ensures t
