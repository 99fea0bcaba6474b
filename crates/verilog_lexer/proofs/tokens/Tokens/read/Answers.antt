use Rattle.std.proofs.Common.{arith}
use Rattle.verilog_lexer.proofs.Cuts.{cut_place, cut_whole}
use Rattle.verilog_lexer.proofs.tokens.Tokens.read.Goals as goal

pub invariant_of-result : goal.invariant_of-result
invariant_of-result c = cut_place (omega arith) c.in-None.ensures c.next_token-next.ensures

pub returns-in-None : goal.returns-in-None
returns-in-None c = cut_whole c.in-None.ensures c.next_token-next.ensures
