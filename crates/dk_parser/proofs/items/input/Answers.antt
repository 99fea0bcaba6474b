use Rattle.std.proofs.lemmas.Result.{err_from_is_err_and}
use Rattle.dk_lexer.specs.declared.token.Symbol.TheVariants.{Colon}
use Rattle.dk_grammar.proofs.Clears.{clear_then, clear_done}
use Rattle.dk_grammar.proofs.Stucks as T
use Rattle.dk_parser.specs.declared.terminal.Mark.TheVariants as mark
use Rattle.dk_parser.proofs.Tokens as K
use Rattle.dk_parser.proofs.Stucks as S
use Rattle.dk_parser.proofs.items.input.Goals as goal

pub returns-in_err-name : goal.returns-in_err-name
returns-in_err-name c =
    let p = err_from_is_err_and c.from_residual.result c.from_residual.ensures.1 in rw (p.1, p.2) (record { parsed = S.halts (λ at k. T.then_first K.clear_name (λ z. clear_then (K.clear_mark (mark.Sign Colon)) (λ z. clear_then K.clear_type (λ z. clear_done _))) k) _ c.in_err-name.ensures.parsed; fewer = tt })

pub returns-in_err-middle : goal.returns-in_err-middle
returns-in_err-middle c =
    let p = err_from_is_err_and c.from_residual-in_err-middle.result c.from_residual-in_err-middle.ensures.1 in rw (p.1, p.2) (record { parsed = S.halts (λ at k. T.then_second K.clear_name c.in_ok-name.ensures.parsed (T.then_first (K.clear_mark (mark.Sign Colon)) (λ z. clear_then K.clear_type (λ z. clear_done _)) k)) _ c.in_err-middle.ensures.parsed; fewer = tt })

pub returns-in_err-ty : goal.returns-in_err-ty
returns-in_err-ty c =
    let p = err_from_is_err_and c.from_residual-in_err-ty.result c.from_residual-in_err-ty.ensures.1 in rw (p.1, p.2) (record { parsed = S.halts (λ at k. T.then_second K.clear_name c.in_ok-name.ensures.parsed (T.then_second (K.clear_mark (mark.Sign Colon)) c.in_ok-middle.ensures.parsed (T.then_first K.clear_type (λ z. clear_done _) k))) _ c.in_err-ty.ensures.parsed; fewer = tt })
