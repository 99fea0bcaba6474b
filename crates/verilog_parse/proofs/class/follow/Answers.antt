use Rattle.std.proofs.Common.{sym}
use Rattle.verilog_parse.specs.Forms.{following}
use Rattle.verilog_parse.proofs.Fronts as F
use Rattle.verilog_parse.proofs.class.follow.Goals as goal

pub returns-in-None : goal.returns-in-None
returns-in-None c = record { parsed = F.stuck_first (λ k s. following c.args.before.now k) _ _ _ (F.follow_class c.args.before.now) c.peek-token.ensures.next.1 (sym c.in-None.ensures) }
