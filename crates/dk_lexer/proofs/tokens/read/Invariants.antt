use Rattle.std.proofs.Common.{length}
use Rattle.dk_lexer.proofs.Lexing.{Continues}
use Rattle.dk_lexer.proofs.tokens.read.Given as goal

abbrev pub invariant-tokens : goal.invariant-tokens
invariant-tokens l = Continues l.source l.tokens.items l.rest

abbrev pub decreases-tokens : goal.decreases-tokens
decreases-tokens l = length l.rest
