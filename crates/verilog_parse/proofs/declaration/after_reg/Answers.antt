use Rattle.std.proofs.Common.{refl}
use Rattle.std.proofs.lemmas.Result.{err_from_is_err_and}
use Rattle.dk_grammar.proofs.Clears.{clear_then, clear_done}
use Rattle.dk_grammar.proofs.Stucks as S
use Rattle.verilog_text.specs.declared.token.Symbol.TheVariants as symbol
use Rattle.verilog_parse.proofs.Shapes as C
use Rattle.verilog_parse.proofs.declaration.after_reg.Goals as goal

pub returns-in_err-words-in-Words : goal.returns-in_err-words-in-Words
returns-in_err-words-in-Words c =
    let p = err_from_is_err_and c.from_residual.result c.from_residual.ensures.1 in
    rw (c.in-Words.is, p.1, p.2) (record { parsed = C.halts (λ at k. S.then_first C.bits (λ x0. clear_then (C.sign symbol.Semicolon) (λ x1. clear_done _)) k) _ _ c.in_err-words-in-Words.ensures.parsed })

pub returns-in_err-sign-in-Words : goal.returns-in_err-sign-in-Words
returns-in_err-sign-in-Words c =
    let p = err_from_is_err_and c.from_residual-in_err-sign-in-Words.result c.from_residual-in_err-sign-in-Words.ensures.1 in
    rw (c.in-Words.is, p.1, p.2) (record { parsed = C.halts (λ at k. S.then_second C.bits c.in_ok-words-in-Words.ensures.parsed (S.then_first (C.sign symbol.Semicolon) (λ x1. clear_done _) k)) _ _ c.in_err-sign-in-Words.ensures.parsed })

pub returns-in_ok-sign-in-Words : goal.returns-in_ok-sign-in-Words
returns-in_ok-sign-in-Words c = rw c.in-Words.is (record { parsed = (_, _, c.in_ok-words-in-Words.ensures.parsed, (tt, _, c.in_ok-sign-in-Words.ensures.parsed, (refl, refl))) })
