use Rattle.std.proofs.Common.{◌∙◌, sym, ap, drop}
use Rattle.vcd_trace.proofs.Readings.{wide_read}
use Rattle.vcd_trace.proofs.reading.wide_value.Goals as goal

pub returns-in-Some : goal.returns-in-Some
returns-in-Some c = λ v rest l e. wide_read v c.bits_value.result c.in-Some.digits.now rest l (ap (drop 1) (sym c.in-Some.ensures.cases.0 ∙ e)) c.bits_value.ensures
