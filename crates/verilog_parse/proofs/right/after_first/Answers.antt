use Rattle.std.proofs.lemmas.Result.{err_from_is_err_and}
use Rattle.dk_grammar.proofs.Clears.{clear_then, clear_done}
use Rattle.dk_grammar.proofs.Stucks as S
use Rattle.verilog_text.specs.declared.token.Symbol.TheVariants as symbol
use Rattle.verilog_parse.proofs.Shapes as C
use Rattle.verilog_parse.proofs.right.after_first.Goals as goal

pub returns-in_err-low : goal.returns-in_err-low
returns-in_err-low c =
    let p = err_from_is_err_and c.from_residual.result c.from_residual.ensures.1 in
    rw (c.if-more.true, p.1, p.2) (record { parsed = C.halts (λ at k. S.then_first C.count (λ x0. clear_then (C.ended symbol.CloseSquare) (λ x1. clear_done _)) k) _ _ c.in_err-low.ensures.parsed })

pub returns-in_err-ended : goal.returns-in_err-ended
returns-in_err-ended c =
    let p = err_from_is_err_and c.from_residual-in_err-ended.result c.from_residual-in_err-ended.ensures.1 in
    rw (c.if-more.true, p.1, p.2) (record { parsed = C.halts (λ at k. S.then_second C.count c.in_ok-low.ensures.parsed (S.then_first (C.ended symbol.CloseSquare) (λ x1. clear_done _) k)) _ _ c.in_err-ended.ensures.parsed })

pub returns-in_err-sign : goal.returns-in_err-sign
returns-in_err-sign c =
    let p = err_from_is_err_and c.from_residual-in_err-sign.result c.from_residual-in_err-sign.ensures.1 in
    rw (c.if-more.false, p.1, p.2) (record { parsed = C.halts (λ at k. S.then_first (C.sign symbol.Semicolon) (λ x0. clear_done _) k) _ _ c.in_err-sign.ensures.parsed })
