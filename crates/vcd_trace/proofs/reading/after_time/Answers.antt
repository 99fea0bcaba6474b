use Rattle.std.proofs.Common.{◌++◌, ◌∙◌, sym, ap}
use Rattle.vcd_trace.proofs.reading.after_time.Goals as goal

pub returns-in-None : goal.returns-in-None
returns-in-None c = λ more e. c.in-None.ensures more (e ∙ sym (ap (λ z. z ++ more) (c.as_slice.ensures.value ∙ c.in_ok-write_time.ensures)))
