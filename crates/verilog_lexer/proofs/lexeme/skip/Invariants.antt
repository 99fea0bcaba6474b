use Rattle.std.proofs.Common.{List, ℕ, length}
use Rattle.verilog_text.specs.Lexis.{Gap}
use Rattle.verilog_lexer.proofs.lexeme.skip.Given as goal

abbrev pub invariant-gap : goal.invariant-gap
invariant-gap l = (r : List ℕ) → Gap l.rest r → Gap l.fn.bytes r

abbrev pub decreases-gap : goal.decreases-gap
decreases-gap l = length l.rest
