use Rattle.dk_lexer.proofs.Unique.{one_lexing, one_fault, no_tokens}
use Rattle.dk_lexer.proofs.Total.{reading}
use Rattle.dk_lexer.proofs.tokens.one_reading_law.Goals as goal

pub returns : goal.returns
returns c = record {
  some = λ text. reading text;
  tokens = λ text a b p q. one_lexing p b q;
  fault = λ text f g p q. one_fault p g q;
  either = λ text a f p q. no_tokens q a p;
}
