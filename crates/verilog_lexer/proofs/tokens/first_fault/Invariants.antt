use Rattle.std.proofs.Common.{length}
use Rattle.verilog_lexer.proofs.Cuts.{Continues}
use Rattle.verilog_lexer.proofs.tokens.first_fault.Given as goal

abbrev pub invariant-tokens : goal.invariant-tokens
invariant-tokens l = Continues l.source l.rest

abbrev pub decreases-tokens : goal.decreases-tokens
decreases-tokens l = length l.rest
