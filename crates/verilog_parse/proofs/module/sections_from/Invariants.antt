use Rattle.std.proofs.Common.{length}
use Rattle.verilog_parse.proofs.Loops.{SectionsBegun}
use Rattle.verilog_parse.proofs.module.sections_from.Given as goal

abbrev pub invariant-sections : goal.invariant-sections
invariant-sections l = SectionsBegun l.fn.first l.next l.fn.written l.written l.fn.tokens l.tokens

abbrev pub decreases-sections : goal.decreases-sections
decreases-sections l = length l.tokens
