use Rattle.std.proofs.lemmas.Result.{err_from_is_err_and}
use Rattle.dk_grammar.proofs.Clears.{clear_then, clear_done}
use Rattle.dk_grammar.proofs.Stucks as S
use Rattle.verilog_text.specs.declared.token.Symbol.TheVariants as symbol
use Rattle.verilog_text.specs.declared.token.Keyword.TheVariants as keyword
use Rattle.verilog_parse.proofs.Shapes as C
use Rattle.verilog_parse.proofs.module.headline.Goals as goal

pub returns-in_err-word : goal.returns-in_err-word
returns-in_err-word c =
    let p = err_from_is_err_and c.from_residual.result c.from_residual.ensures.1 in
    rw (p.1, p.2) (record { parsed = C.halts (λ at k. S.then_first (C.word keyword.Module) (λ x0. clear_then C.name (λ x1. clear_then (C.sign symbol.Open) (λ x2. clear_done _))) k) _ _ c.in_err-word.ensures.parsed })

pub returns-in_err-name : goal.returns-in_err-name
returns-in_err-name c =
    let p = err_from_is_err_and c.from_residual-in_err-name.result c.from_residual-in_err-name.ensures.1 in
    rw (p.1, p.2) (record { parsed = C.halts (λ at k. S.then_second (C.word keyword.Module) c.in_ok-word.ensures.parsed (S.then_first C.name (λ x1. clear_then (C.sign symbol.Open) (λ x2. clear_done _)) k)) _ _ c.in_err-name.ensures.parsed })

pub returns-in_err-sign : goal.returns-in_err-sign
returns-in_err-sign c =
    let p = err_from_is_err_and c.from_residual-in_err-sign.result c.from_residual-in_err-sign.ensures.1 in
    rw (p.1, p.2) (record { parsed = C.halts (λ at k. S.then_second (C.word keyword.Module) c.in_ok-word.ensures.parsed (S.then_second C.name c.in_ok-name.ensures.parsed (S.then_first (C.sign symbol.Open) (λ x2. clear_done _) k))) _ _ c.in_err-sign.ensures.parsed })
