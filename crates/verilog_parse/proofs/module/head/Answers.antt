use Rattle.std.proofs.lemmas.Result.{err_from_is_err_and}
use Rattle.dk_grammar.proofs.Clears.{clear_then, clear_done}
use Rattle.dk_grammar.proofs.Stucks as S
use Rattle.verilog_text.specs.declared.token.Symbol.TheVariants as symbol
use Rattle.verilog_parse.proofs.Shapes as C
use Rattle.verilog_parse.proofs.module.head.Goals as goal

pub returns-in_err-name : goal.returns-in_err-name
returns-in_err-name c =
    let p = err_from_is_err_and c.from_residual.result c.from_residual.ensures.1 in
    rw (p.1, p.2) (record { parsed = C.halts (λ at k. S.then_first C.headline (λ x0. clear_then C.ports (λ x1. clear_then (C.sign symbol.Semicolon) (λ x2. clear_done _))) k) _ _ c.in_err-name.ensures.parsed })

pub returns-in_err-ports : goal.returns-in_err-ports
returns-in_err-ports c =
    let p = err_from_is_err_and c.from_residual-in_err-ports.result c.from_residual-in_err-ports.ensures.1 in
    rw (p.1, p.2) (record { parsed = C.halts (λ at k. S.then_second C.headline c.in_ok-name.ensures.parsed (S.then_first C.ports (λ x1. clear_then (C.sign symbol.Semicolon) (λ x2. clear_done _)) k)) _ _ c.in_err-ports.ensures.parsed })

pub returns-in_err-sign : goal.returns-in_err-sign
returns-in_err-sign c =
    let p = err_from_is_err_and c.from_residual-in_err-sign.result c.from_residual-in_err-sign.ensures.1 in
    rw (p.1, p.2) (record { parsed = C.halts (λ at k. S.then_second C.headline c.in_ok-name.ensures.parsed (S.then_second C.ports c.in_ok-ports.ensures.parsed (S.then_first (C.sign symbol.Semicolon) (λ x2. clear_done _) k))) _ _ c.in_err-sign.ensures.parsed })
