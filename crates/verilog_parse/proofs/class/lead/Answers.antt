use Rattle.std.proofs.Common.{sym}
use Rattle.verilog_parse.specs.Sections.{leading}
use Rattle.verilog_parse.proofs.Fronts as F
use Rattle.verilog_parse.proofs.class.lead.Goals as goal

pub returns-in-None : goal.returns-in-None
returns-in-None c = record { parsed = F.stuck_first leading _ _ _ F.lead_class c.peek-token.ensures.next.1 (sym c.in-None.ensures) }
