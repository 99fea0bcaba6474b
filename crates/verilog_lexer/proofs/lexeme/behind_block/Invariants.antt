use Rattle.std.proofs.Common.{◌≡◌, length}
use Rattle.verilog_text.specs.Lexis.{behind_block}
use Rattle.verilog_lexer.proofs.lexeme.behind_block.Given as goal

abbrev pub invariant-bytes : goal.invariant-bytes
invariant-bytes l = behind_block l.rest ≡ behind_block l.fn.text

abbrev pub decreases-bytes : goal.decreases-bytes
decreases-bytes l = length l.rest
