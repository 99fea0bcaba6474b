use Rattle.std.proofs.lemmas.Result.{err_from_is_err_and}
use Rattle.dk_grammar.proofs.Stucks as S
use Rattle.verilog_text.specs.declared.token.Symbol.TheVariants as symbol
use Rattle.verilog_parse.proofs.Shapes as C
use Rattle.verilog_parse.proofs.right.ended.Goals as goal

pub returns-in_err-sign : goal.returns-in_err-sign
returns-in_err-sign c =
    let p = err_from_is_err_and c.from_residual.result c.from_residual.ensures.1 in
    rw (p.1, p.2) (record { parsed = C.halts (λ at k. S.then_first (C.sign c.args.symbol) (λ x0. (C.sign symbol.Semicolon)) k) _ _ c.in_err-sign.ensures.parsed })

pub returns-in_err-sign-2 : goal.returns-in_err-sign-2
returns-in_err-sign-2 c =
    let p = err_from_is_err_and c.from_residual-in_err-sign-2.result c.from_residual-in_err-sign-2.ensures.1 in
    rw (p.1, p.2) (record { parsed = C.halts (λ at k. S.then_second (C.sign c.args.symbol) c.in_ok-sign.ensures.parsed (k)) _ _ c.in_err-sign-2.ensures.parsed })
