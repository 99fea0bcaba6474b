use Rattle.verilog_text.proofs.Unique.{one_lexing, one_refused, no_tokens}
use Rattle.verilog_text.proofs.Modules.{one_source}
use Rattle.verilog_text.proofs.laws.one_reading_law.Goals as goal

pub returns : goal.returns
returns c = record {
  tokens = λ text a b p q. one_lexing p b q;
  fault = λ text f g p q. one_refused p g q;
  apart = λ text a f p q. no_tokens q a p;
  source = λ tokens s t p q. one_source tokens s t p q;
}
