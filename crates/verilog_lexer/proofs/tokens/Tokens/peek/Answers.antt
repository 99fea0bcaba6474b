use Rattle.std.proofs.Common.{◌∙◌, sym}
use Rattle.verilog_lexer.proofs.Cuts.{after_end}
use Rattle.verilog_lexer.proofs.tokens.Tokens.peek.Goals as goal

pub returns-clause-last : goal.returns-clause-last
returns-clause-last c = λ e. sym c.self.view_is ∙ after_end _ _ e
