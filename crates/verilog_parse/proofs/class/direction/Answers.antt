use Rattle.std.proofs.Common.{sym}
use Rattle.verilog_text.specs.Grammar.{directed}
use Rattle.verilog_parse.proofs.Fronts as F
use Rattle.verilog_parse.proofs.class.direction.Goals as goal

pub returns-in-None : goal.returns-in-None
returns-in-None c = record { parsed = F.stuck_first (λ k s. directed k) _ _ _ F.direction_class c.peek-token.ensures.next.1 (sym c.in-None.ensures) }
