use Rattle.std.proofs.Common.{refl}
use Rattle.std.proofs.lemmas.Result.{err_from_is_err_and}
use Rattle.dk_grammar.proofs.Clears.{clear_then, clear_done}
use Rattle.dk_grammar.proofs.Stucks as S
use Rattle.verilog_text.specs.declared.token.Symbol.TheVariants as symbol
use Rattle.verilog_parse.proofs.Shapes as C
use Rattle.verilog_parse.proofs.update.after_arrow.Goals as goal

pub returns-in_err-value-in-Takes : goal.returns-in_err-value-in-Takes
returns-in_err-value-in-Takes c =
    let p = err_from_is_err_and c.from_residual.result c.from_residual.ensures.1 in
    rw (c.in-Takes.is, p.1, p.2) (record { parsed = C.halts (λ at k. S.then_first (C.closed symbol.Semicolon) (λ x0. clear_done _) k) _ _ c.in_err-value-in-Takes.ensures.parsed })

pub returns-in_err-index-in-Index : goal.returns-in_err-index-in-Index
returns-in_err-index-in-Index c =
    let p = err_from_is_err_and c.from_residual-in_err-index-in-Index.result c.from_residual-in_err-index-in-Index.ensures.1 in
    rw (c.in-Index.is, p.1, p.2) (record { parsed = C.halts (λ at k. S.then_first (C.closed symbol.CloseSquare) (λ x0. clear_then (C.sign symbol.LessEqual) (λ x1. clear_then (C.closed symbol.Semicolon) (λ x2. clear_done _))) k) _ _ c.in_err-index-in-Index.ensures.parsed })

pub returns-in_err-sign-in-Index : goal.returns-in_err-sign-in-Index
returns-in_err-sign-in-Index c =
    let p = err_from_is_err_and c.from_residual-in_err-sign-in-Index.result c.from_residual-in_err-sign-in-Index.ensures.1 in
    rw (c.in-Index.is, p.1, p.2) (record { parsed = C.halts (λ at k. S.then_second (C.closed symbol.CloseSquare) c.in_ok-index-in-Index.ensures.parsed (S.then_first (C.sign symbol.LessEqual) (λ x1. clear_then (C.closed symbol.Semicolon) (λ x2. clear_done _)) k)) _ _ c.in_err-sign-in-Index.ensures.parsed })

pub returns-in_err-value-in-Index : goal.returns-in_err-value-in-Index
returns-in_err-value-in-Index c =
    let p = err_from_is_err_and c.from_residual-in_err-value-in-Index.result c.from_residual-in_err-value-in-Index.ensures.1 in
    rw (c.in-Index.is, p.1, p.2) (record { parsed = C.halts (λ at k. S.then_second (C.closed symbol.CloseSquare) c.in_ok-index-in-Index.ensures.parsed (S.then_second (C.sign symbol.LessEqual) c.in_ok-sign-in-Index.ensures.parsed (S.then_first (C.closed symbol.Semicolon) (λ x2. clear_done _) k))) _ _ c.in_err-value-in-Index.ensures.parsed })

pub returns-in_ok-value-in-Index : goal.returns-in_ok-value-in-Index
returns-in_ok-value-in-Index c = rw c.in-Index.is (record { parsed = (_, _, c.in_ok-index-in-Index.ensures.parsed, (tt, _, c.in_ok-sign-in-Index.ensures.parsed, (_, _, c.in_ok-value-in-Index.ensures.parsed, (refl, refl)))) })
