use Rattle.std.proofs.Common.{sym}
use Rattle.verilog_text.specs.Grammar.{counted}
use Rattle.verilog_parse.proofs.Fronts as F
use Rattle.verilog_parse.proofs.class.count.Goals as goal

pub returns-in-None : goal.returns-in-None
returns-in-None c = record { parsed = F.stuck_first counted _ _ _ F.count_class c.peek-token.ensures.next.1 (sym c.in-None.ensures) }
