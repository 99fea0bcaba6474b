use Rattle.std.proofs.Common.{sym}
use Rattle.verilog_parse.specs.Sections.{comma_or_close}
use Rattle.verilog_parse.proofs.Fronts as F
use Rattle.verilog_parse.proofs.class.comma_or_close.Goals as goal

pub returns-in-None : goal.returns-in-None
returns-in-None c = record { parsed = F.stuck_first (λ k s. comma_or_close k) _ _ _ F.comma_or_close_class c.peek-token.ensures.next.1 (sym c.in-None.ensures) }
