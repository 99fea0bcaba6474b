use Rattle.std.proofs.Common.{sym}
use Rattle.verilog_parse.specs.Sections.{heading}
use Rattle.verilog_parse.proofs.Fronts as F
use Rattle.verilog_parse.proofs.class.head.Goals as goal

pub returns-in-None : goal.returns-in-None
returns-in-None c = record { parsed = F.stuck_first heading _ _ _ F.head_class c.peek-token.ensures.next.1 (sym c.in-None.ensures) }
