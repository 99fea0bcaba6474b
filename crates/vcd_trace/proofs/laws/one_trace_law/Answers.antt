use Rattle.vcd_trace.proofs.Whole.{one_whole}
use Rattle.vcd_trace.proofs.laws.one_trace_law.Goals as goal

pub returns : goal.returns
returns c widths a b h g e = one_whole widths a b h g e
