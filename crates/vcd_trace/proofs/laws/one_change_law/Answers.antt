use Rattle.vcd_trace.proofs.Lines.{one}
use Rattle.vcd_trace.proofs.laws.one_change_law.Goals as goal

pub returns : goal.returns
returns c i widths old a b o h g e = one i widths old a b o h g e
