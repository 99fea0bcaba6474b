use Rattle.std.proofs.Common.{sym}
use Rattle.verilog_parse.specs.Sections.{arrowing}
use Rattle.verilog_parse.proofs.Fronts as F
use Rattle.verilog_parse.proofs.class.arrow.Goals as goal

pub returns-in-None : goal.returns-in-None
returns-in-None c = record { parsed = F.stuck_first (λ k s. arrowing k) _ _ _ F.arrow_class c.peek-token.ensures.next.1 (sym c.in-None.ensures) }
