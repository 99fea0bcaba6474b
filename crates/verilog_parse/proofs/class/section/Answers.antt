use Rattle.std.proofs.Common.{sym}
use Rattle.verilog_parse.specs.Sections.{section_of}
use Rattle.verilog_parse.proofs.Fronts as F
use Rattle.verilog_parse.proofs.class.section.Goals as goal

pub returns-in-None : goal.returns-in-None
returns-in-None c = record { parsed = F.stuck_first (λ k s. section_of k) _ _ _ F.section_class c.peek-token.ensures.next.1 (sym c.in-None.ensures) }
