use Rattle.verilog_lexer.proofs.Cuts.{no_refused}
use Rattle.verilog_lexer.proofs.tokens.next_token.Goals as goal

pub unreachable-requires : goal.unreachable-requires
unreachable-requires c = no_refused c.requires.has c.in-Err.ensures
