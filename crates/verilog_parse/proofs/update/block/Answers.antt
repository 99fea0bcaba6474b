use Rattle.std.proofs.lemmas.Result.{err_from_is_err_and}
use Rattle.dk_grammar.proofs.Clears.{clear_then}
use Rattle.dk_grammar.proofs.Stucks as S
use Rattle.verilog_text.specs.declared.token.Symbol.TheVariants as symbol
use Rattle.verilog_text.specs.declared.token.Keyword.TheVariants as keyword
use Rattle.verilog_parse.proofs.Shapes as C
use Rattle.verilog_parse.proofs.update.block.Goals as goal

pub returns-in_err-trigger : goal.returns-in_err-trigger
returns-in_err-trigger c =
    let p = err_from_is_err_and c.from_residual.result c.from_residual.ensures.1 in
    rw (p.1, p.2) (record { parsed = C.halts (λ at k. S.then_first C.trigger (λ x0. clear_then (C.sign symbol.Close) (λ x1. clear_then (C.word keyword.Begin) (λ x2. C.updates))) k) _ _ c.in_err-trigger.ensures.parsed })

pub returns-in_err-sign : goal.returns-in_err-sign
returns-in_err-sign c =
    let p = err_from_is_err_and c.from_residual-in_err-sign.result c.from_residual-in_err-sign.ensures.1 in
    rw (p.1, p.2) (record { parsed = C.halts (λ at k. S.then_second C.trigger c.in_ok-trigger.ensures.parsed (S.then_first (C.sign symbol.Close) (λ x1. clear_then (C.word keyword.Begin) (λ x2. C.updates)) k)) _ _ c.in_err-sign.ensures.parsed })

pub returns-in_err-word : goal.returns-in_err-word
returns-in_err-word c =
    let p = err_from_is_err_and c.from_residual-in_err-word.result c.from_residual-in_err-word.ensures.1 in
    rw (p.1, p.2) (record { parsed = C.halts (λ at k. S.then_second C.trigger c.in_ok-trigger.ensures.parsed (S.then_second (C.sign symbol.Close) c.in_ok-sign.ensures.parsed (S.then_first (C.word keyword.Begin) (λ x2. C.updates) k))) _ _ c.in_err-word.ensures.parsed })

pub returns-in_err-updates : goal.returns-in_err-updates
returns-in_err-updates c =
    let p = err_from_is_err_and c.from_residual-in_err-updates.result c.from_residual-in_err-updates.ensures.1 in
    rw (p.1, p.2) (record { parsed = C.halts (λ at k. S.then_second C.trigger c.in_ok-trigger.ensures.parsed (S.then_second (C.sign symbol.Close) c.in_ok-sign.ensures.parsed (S.then_second (C.word keyword.Begin) c.in_ok-word.ensures.parsed (k)))) _ _ c.in_err-updates.ensures.parsed })

pub returns : goal.returns
returns c =
    let q = c.in_ok-updates.ensures.parsed in
    record { parsed = (q.0, (tt, _, c.in_ok-trigger.ensures.parsed, (tt, _, c.in_ok-sign.ensures.parsed, (tt, _, c.in_ok-word.ensures.parsed, q.1))), q.2) }
