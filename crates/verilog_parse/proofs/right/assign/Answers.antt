use Rattle.std.proofs.lemmas.Result.{err_from_is_err_and}
use Rattle.dk_grammar.proofs.Clears.{clear_then, clear_done}
use Rattle.dk_grammar.proofs.Stucks as S
use Rattle.verilog_text.specs.declared.token.Symbol.TheVariants as symbol
use Rattle.verilog_parse.proofs.Shapes as C
use Rattle.verilog_parse.proofs.right.assign.Goals as goal

pub returns-in_err-target : goal.returns-in_err-target
returns-in_err-target c =
    let p = err_from_is_err_and c.from_residual.result c.from_residual.ensures.1 in
    rw (p.1, p.2) (record { parsed = C.halts (λ at k. S.then_first C.name (λ x0. clear_then (C.sign symbol.Equal) (λ x1. clear_then C.a_right (λ x2. clear_done _))) k) _ _ c.in_err-target.ensures.parsed })

pub returns-in_err-sign : goal.returns-in_err-sign
returns-in_err-sign c =
    let p = err_from_is_err_and c.from_residual-in_err-sign.result c.from_residual-in_err-sign.ensures.1 in
    rw (p.1, p.2) (record { parsed = C.halts (λ at k. S.then_second C.name c.in_ok-target.ensures.parsed (S.then_first (C.sign symbol.Equal) (λ x1. clear_then C.a_right (λ x2. clear_done _)) k)) _ _ c.in_err-sign.ensures.parsed })

pub returns-in_err-right : goal.returns-in_err-right
returns-in_err-right c =
    let p = err_from_is_err_and c.from_residual-in_err-right.result c.from_residual-in_err-right.ensures.1 in
    rw (p.1, p.2) (record { parsed = C.halts (λ at k. S.then_second C.name c.in_ok-target.ensures.parsed (S.then_second (C.sign symbol.Equal) c.in_ok-sign.ensures.parsed (S.then_first C.a_right (λ x2. clear_done _) k))) _ _ c.in_err-right.ensures.parsed })
