use Rattle.std.proofs.lemmas.Result.{err_from_is_err_and}
use Rattle.dk_grammar.proofs.Clears.{clear_then, clear_done}
use Rattle.dk_grammar.proofs.Stucks as S
use Rattle.verilog_text.specs.declared.token.Symbol.TheVariants as symbol
use Rattle.verilog_parse.proofs.Shapes as C
use Rattle.verilog_parse.proofs.port.bits.Goals as goal

pub returns-in_err-first : goal.returns-in_err-first
returns-in_err-first c =
    let p = err_from_is_err_and c.from_residual.result c.from_residual.ensures.1 in
    rw (p.1, p.2) (record { parsed = C.halts (λ at k. S.then_first C.count (λ x0. clear_then (C.sign symbol.Colon) (λ x1. clear_then C.count (λ x2. clear_then (C.sign symbol.CloseSquare) (λ x3. clear_done _)))) k) _ _ c.in_err-first.ensures.parsed })

pub returns-in_err-sign : goal.returns-in_err-sign
returns-in_err-sign c =
    let p = err_from_is_err_and c.from_residual-in_err-sign.result c.from_residual-in_err-sign.ensures.1 in
    rw (p.1, p.2) (record { parsed = C.halts (λ at k. S.then_second C.count c.in_ok-first.ensures.parsed (S.then_first (C.sign symbol.Colon) (λ x1. clear_then C.count (λ x2. clear_then (C.sign symbol.CloseSquare) (λ x3. clear_done _))) k)) _ _ c.in_err-sign.ensures.parsed })

pub returns-in_err-second : goal.returns-in_err-second
returns-in_err-second c =
    let p = err_from_is_err_and c.from_residual-in_err-second.result c.from_residual-in_err-second.ensures.1 in
    rw (p.1, p.2) (record { parsed = C.halts (λ at k. S.then_second C.count c.in_ok-first.ensures.parsed (S.then_second (C.sign symbol.Colon) c.in_ok-sign.ensures.parsed (S.then_first C.count (λ x2. clear_then (C.sign symbol.CloseSquare) (λ x3. clear_done _)) k))) _ _ c.in_err-second.ensures.parsed })

pub returns-in_err-sign-2 : goal.returns-in_err-sign-2
returns-in_err-sign-2 c =
    let p = err_from_is_err_and c.from_residual-in_err-sign-2.result c.from_residual-in_err-sign-2.ensures.1 in
    rw (p.1, p.2) (record { parsed = C.halts (λ at k. S.then_second C.count c.in_ok-first.ensures.parsed (S.then_second (C.sign symbol.Colon) c.in_ok-sign.ensures.parsed (S.then_second C.count c.in_ok-second.ensures.parsed (S.then_first (C.sign symbol.CloseSquare) (λ x3. clear_done _) k)))) _ _ c.in_err-sign-2.ensures.parsed })
