use Rattle.std.proofs.lemmas.Result.{err_from_is_err_and}
use Rattle.dk_grammar.proofs.Clears.{clear_one, clear_then}
use Rattle.dk_grammar.proofs.Stucks as S
use Rattle.verilog_text.specs.declared.token.Symbol.TheVariants as symbol
use Rattle.verilog_text.specs.declared.token.TokenKind.TheVariants as kind
use Rattle.verilog_text.specs.declared.token.Keyword.TheVariants as keyword
use Rattle.verilog_parse.proofs.Fronts as F
use Rattle.verilog_parse.proofs.Shapes as C
use Rattle.verilog_parse.proofs.update.trigger.Goals as goal

pub returns-in_err-sign : goal.returns-in_err-sign
returns-in_err-sign c =
    let p = err_from_is_err_and c.from_residual.result c.from_residual.ensures.1 in
    rw (p.1, p.2) (record { parsed = C.halts (λ at k. S.then_first (C.sign symbol.At) (λ x0. clear_then (C.sign symbol.Open) (λ x1. clear_then (C.word keyword.Posedge) (λ x2. (clear_one (F.is_class kind.Clock))))) k) _ _ c.in_err-sign.ensures.parsed })

pub returns-in_err-sign-2 : goal.returns-in_err-sign-2
returns-in_err-sign-2 c =
    let p = err_from_is_err_and c.from_residual-in_err-sign-2.result c.from_residual-in_err-sign-2.ensures.1 in
    rw (p.1, p.2) (record { parsed = C.halts (λ at k. S.then_second (C.sign symbol.At) c.in_ok-sign.ensures.parsed (S.then_first (C.sign symbol.Open) (λ x1. clear_then (C.word keyword.Posedge) (λ x2. (clear_one (F.is_class kind.Clock)))) k)) _ _ c.in_err-sign-2.ensures.parsed })

pub returns-in_err-word : goal.returns-in_err-word
returns-in_err-word c =
    let p = err_from_is_err_and c.from_residual-in_err-word.result c.from_residual-in_err-word.ensures.1 in
    rw (p.1, p.2) (record { parsed = C.halts (λ at k. S.then_second (C.sign symbol.At) c.in_ok-sign.ensures.parsed (S.then_second (C.sign symbol.Open) c.in_ok-sign-2.ensures.parsed (S.then_first (C.word keyword.Posedge) (λ x2. (clear_one (F.is_class kind.Clock))) k))) _ _ c.in_err-word.ensures.parsed })

pub returns-in_err-clock : goal.returns-in_err-clock
returns-in_err-clock c =
    let p = err_from_is_err_and c.from_residual-in_err-clock.result c.from_residual-in_err-clock.ensures.1 in
    rw (p.1, p.2) (record { parsed = C.halts (λ at k. S.then_second (C.sign symbol.At) c.in_ok-sign.ensures.parsed (S.then_second (C.sign symbol.Open) c.in_ok-sign-2.ensures.parsed (S.then_second (C.word keyword.Posedge) c.in_ok-word.ensures.parsed (k)))) _ _ c.in_err-clock.ensures.parsed })
