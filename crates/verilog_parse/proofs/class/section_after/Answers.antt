use Rattle.std.proofs.Common.{sym}
use Rattle.verilog_parse.specs.Sections.{section_after}
use Rattle.verilog_parse.proofs.Fronts as F
use Rattle.verilog_parse.proofs.class.section_after.Goals as goal

pub returns-in-None : goal.returns-in-None
returns-in-None c = record { parsed = F.stuck_first (λ k s. section_after c.args.before k) _ _ _ (F.after_class c.args.before c.requires) c.peek-token.ensures.next.1 (sym c.in-None.ensures) }
