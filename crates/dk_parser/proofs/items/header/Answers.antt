use Rattle.std.proofs.lemmas.Result.{err_from_is_err_and}
use Rattle.dk_lexer.specs.declared.token.Symbol.TheVariants.{Open, Close, Comma}
use Rattle.dk_grammar.proofs.Clears.{clear_then}
use Rattle.dk_grammar.proofs.Stucks as T
use Rattle.source_words.specs.declared.word.Keyword.TheVariants as word
use Rattle.dk_parser.specs.declared.terminal.Mark.TheVariants as mark
use Rattle.dk_parser.proofs.Tokens as K
use Rattle.dk_parser.proofs.Stucks as S
use Rattle.dk_parser.proofs.items.header.Goals as goal

pub returns-in_err-open_at : goal.returns-in_err-open_at
returns-in_err-open_at c =
    let p = err_from_is_err_and c.from_residual.result c.from_residual.ensures.1 in rw (p.1, p.2) (record { parsed = S.halts (λ at k. T.then_first (K.clear_mark (mark.Reserved word.Im)) (λ z. clear_then (K.clear_mark (mark.Sign Open)) (λ z. clear_then (K.clear_mark (mark.Reserved word.X)) (λ z. clear_then (K.clear_mark (mark.Sign Comma)) (λ z. clear_then (K.clear_mark (mark.Reserved word.Y)) (λ z. (K.clear_mark (mark.Sign Close))))))) k) _ c.in_err-open_at.ensures.parsed; fewer = tt })

pub returns-in_err-x_at : goal.returns-in_err-x_at
returns-in_err-x_at c =
    let p = err_from_is_err_and c.from_residual-in_err-x_at.result c.from_residual-in_err-x_at.ensures.1 in rw (p.1, p.2) (record { parsed = S.halts (λ at k. T.then_second (K.clear_mark (mark.Reserved word.Im)) c.in_ok-open_at.ensures.parsed (T.then_first (K.clear_mark (mark.Sign Open)) (λ z. clear_then (K.clear_mark (mark.Reserved word.X)) (λ z. clear_then (K.clear_mark (mark.Sign Comma)) (λ z. clear_then (K.clear_mark (mark.Reserved word.Y)) (λ z. (K.clear_mark (mark.Sign Close)))))) k)) _ c.in_err-x_at.ensures.parsed; fewer = tt })

pub returns-in_err-comma_at : goal.returns-in_err-comma_at
returns-in_err-comma_at c =
    let p = err_from_is_err_and c.from_residual-in_err-comma_at.result c.from_residual-in_err-comma_at.ensures.1 in rw (p.1, p.2) (record { parsed = S.halts (λ at k. T.then_second (K.clear_mark (mark.Reserved word.Im)) c.in_ok-open_at.ensures.parsed (T.then_second (K.clear_mark (mark.Sign Open)) c.in_ok-x_at.ensures.parsed (T.then_first (K.clear_mark (mark.Reserved word.X)) (λ z. clear_then (K.clear_mark (mark.Sign Comma)) (λ z. clear_then (K.clear_mark (mark.Reserved word.Y)) (λ z. (K.clear_mark (mark.Sign Close))))) k))) _ c.in_err-comma_at.ensures.parsed; fewer = tt })

pub returns-in_err-y_at : goal.returns-in_err-y_at
returns-in_err-y_at c =
    let p = err_from_is_err_and c.from_residual-in_err-y_at.result c.from_residual-in_err-y_at.ensures.1 in rw (p.1, p.2) (record { parsed = S.halts (λ at k. T.then_second (K.clear_mark (mark.Reserved word.Im)) c.in_ok-open_at.ensures.parsed (T.then_second (K.clear_mark (mark.Sign Open)) c.in_ok-x_at.ensures.parsed (T.then_second (K.clear_mark (mark.Reserved word.X)) c.in_ok-comma_at.ensures.parsed (T.then_first (K.clear_mark (mark.Sign Comma)) (λ z. clear_then (K.clear_mark (mark.Reserved word.Y)) (λ z. (K.clear_mark (mark.Sign Close)))) k)))) _ c.in_err-y_at.ensures.parsed; fewer = tt })

pub returns-in_err-close_at : goal.returns-in_err-close_at
returns-in_err-close_at c =
    let p = err_from_is_err_and c.from_residual-in_err-close_at.result c.from_residual-in_err-close_at.ensures.1 in rw (p.1, p.2) (record { parsed = S.halts (λ at k. T.then_second (K.clear_mark (mark.Reserved word.Im)) c.in_ok-open_at.ensures.parsed (T.then_second (K.clear_mark (mark.Sign Open)) c.in_ok-x_at.ensures.parsed (T.then_second (K.clear_mark (mark.Reserved word.X)) c.in_ok-comma_at.ensures.parsed (T.then_second (K.clear_mark (mark.Sign Comma)) c.in_ok-y_at.ensures.parsed (T.then_first (K.clear_mark (mark.Reserved word.Y)) (λ z. (K.clear_mark (mark.Sign Close))) k))))) _ c.in_err-close_at.ensures.parsed; fewer = tt })

pub returns-in_err-last : goal.returns-in_err-last
returns-in_err-last c =
    let p = err_from_is_err_and c.from_residual-in_err-last.result c.from_residual-in_err-last.ensures.1 in rw (p.1, p.2) (record { parsed = S.halts (λ at k. T.then_second (K.clear_mark (mark.Reserved word.Im)) c.in_ok-open_at.ensures.parsed (T.then_second (K.clear_mark (mark.Sign Open)) c.in_ok-x_at.ensures.parsed (T.then_second (K.clear_mark (mark.Reserved word.X)) c.in_ok-comma_at.ensures.parsed (T.then_second (K.clear_mark (mark.Sign Comma)) c.in_ok-y_at.ensures.parsed (T.then_second (K.clear_mark (mark.Reserved word.Y)) c.in_ok-close_at.ensures.parsed (k)))))) _ c.in_err-last.ensures.parsed; fewer = tt })

pub returns-clause-parsed : goal.returns-clause-parsed
returns-clause-parsed c =
    (_, _, c.in_ok-open_at.ensures.parsed, (_, _, c.in_ok-x_at.ensures.parsed, (_, _, c.in_ok-comma_at.ensures.parsed, (_, _, c.in_ok-y_at.ensures.parsed, (_, _, c.in_ok-close_at.ensures.parsed, c.in_ok-last.ensures.parsed)))))
