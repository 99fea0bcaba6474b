use Rattle.dk_lexer.proofs.Says.{faithful_tokens}
use Rattle.dk_lexer.proofs.tokens.faithful_law.Goals as goal

pub returns : goal.returns
returns c = λ text tokens h. faithful_tokens text tokens h
