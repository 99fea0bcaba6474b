use Rattle.std.proofs.Common.{subst}
use Rattle.verilog_text.specs.Grammar.{Module}
use Rattle.verilog_parse.proofs.OneAnswer as O
use Rattle.verilog_parse.proofs.text.name_span.Goals as goal

pub returns : goal.returns
returns c = λ s w.
    let same = c.one_reading_law.ensures.tokens _ _ _ w.has_tokens c.in-Ok.ensures.tokens in
    O.name_is c.take.result c.peek.result (subst (λ x. Module x s) same w.is_module) c.take.ensures.next c.take.ensures.last c.peek.ensures.next.1
