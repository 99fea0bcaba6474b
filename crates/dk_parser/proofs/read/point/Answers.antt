use Rattle.std.proofs.Common.{refl}
use Rattle.std.proofs.lemmas.Result.{err_from_is_err_and}
use Rattle.dk_lexer.specs.declared.token.Symbol.TheVariants.{Open, Close, Comma}
use Rattle.dk_grammar.proofs.Clears.{clear_then, clear_done}
use Rattle.dk_grammar.proofs.Stucks as T
use Rattle.source_words.specs.declared.word.Keyword.TheVariants.{X, Y}
use Rattle.dk_parser.specs.declared.terminal.Mark.TheVariants as mark
use Rattle.dk_parser.proofs.Tokens as K
use Rattle.dk_parser.proofs.ReadLaws as L
use Rattle.dk_parser.proofs.Stucks as S
use Rattle.dk_parser.proofs.read.point.Goals as goal

pub returns-in_err-inner : goal.returns-in_err-inner
returns-in_err-inner c =
    let p = err_from_is_err_and c.from_residual.result c.from_residual.ensures.1 in rw (p.1, p.2) (record { parsed = S.halts (λ at k. T.then_first (K.clear_mark (mark.Sign Open)) (λ z. clear_then (K.clear_mark (mark.Reserved X)) (λ z. clear_then (L.clear_moved (mark.Sign Comma) refl) (λ z. clear_then (K.clear_mark (mark.Reserved Y)) (λ z. clear_then (L.clear_moved (mark.Sign Close) refl) (λ z. clear_done _))))) k) _ c.in_err-inner.ensures.parsed; fewer = tt })

pub returns-in_err-across : goal.returns-in_err-across
returns-in_err-across c =
    let p = err_from_is_err_and c.from_residual-in_err-across.result c.from_residual-in_err-across.ensures.1 in rw (p.1, p.2) (record { parsed = S.halts (λ at k. T.then_second (K.clear_mark (mark.Sign Open)) c.in_ok-inner.ensures.parsed (T.then_first (K.clear_mark (mark.Reserved X)) (λ z. clear_then (L.clear_moved (mark.Sign Comma) refl) (λ z. clear_then (K.clear_mark (mark.Reserved Y)) (λ z. clear_then (L.clear_moved (mark.Sign Close) refl) (λ z. clear_done _)))) k)) _ c.in_err-across.ensures.parsed; fewer = tt })

pub returns-in_err-x : goal.returns-in_err-x
returns-in_err-x c =
    let p = err_from_is_err_and c.from_residual-in_err-x.result c.from_residual-in_err-x.ensures.1 in rw (p.1, p.2) (record { parsed = S.halts (λ at k. T.then_second (K.clear_mark (mark.Sign Open)) c.in_ok-inner.ensures.parsed (T.then_second (K.clear_mark (mark.Reserved X)) c.in_ok-across.ensures.parsed (T.then_first (L.clear_moved (mark.Sign Comma) refl) (λ z. clear_then (K.clear_mark (mark.Reserved Y)) (λ z. clear_then (L.clear_moved (mark.Sign Close) refl) (λ z. clear_done _))) k))) _ c.in_err-x.ensures.parsed; fewer = tt })

pub returns-in_err-down : goal.returns-in_err-down
returns-in_err-down c =
    let p = err_from_is_err_and c.from_residual-in_err-down.result c.from_residual-in_err-down.ensures.1 in rw (p.1, p.2) (record { parsed = S.halts (λ at k. T.then_second (K.clear_mark (mark.Sign Open)) c.in_ok-inner.ensures.parsed (T.then_second (K.clear_mark (mark.Reserved X)) c.in_ok-across.ensures.parsed (T.then_second (L.clear_moved (mark.Sign Comma) refl) c.in_ok-x.ensures.parsed (T.then_first (K.clear_mark (mark.Reserved Y)) (λ z. clear_then (L.clear_moved (mark.Sign Close) refl) (λ z. clear_done _)) k)))) _ c.in_err-down.ensures.parsed; fewer = tt })

pub returns-in_err-y : goal.returns-in_err-y
returns-in_err-y c =
    let p = err_from_is_err_and c.from_residual-in_err-y.result c.from_residual-in_err-y.ensures.1 in rw (p.1, p.2) (record { parsed = S.halts (λ at k. T.then_second (K.clear_mark (mark.Sign Open)) c.in_ok-inner.ensures.parsed (T.then_second (K.clear_mark (mark.Reserved X)) c.in_ok-across.ensures.parsed (T.then_second (L.clear_moved (mark.Sign Comma) refl) c.in_ok-x.ensures.parsed (T.then_second (K.clear_mark (mark.Reserved Y)) c.in_ok-down.ensures.parsed (T.then_first (L.clear_moved (mark.Sign Close) refl) (λ z. clear_done _) k))))) _ c.in_err-y.ensures.parsed; fewer = tt })

pub returns-clause-parsed : goal.returns-clause-parsed
returns-clause-parsed c =
    (_, _, c.in_ok-inner.ensures.parsed, (_, _, c.in_ok-across.ensures.parsed, (_, _, c.in_ok-x.ensures.parsed, (_, _, c.in_ok-down.ensures.parsed, (_, _, c.in_ok-y.ensures.parsed, (refl, refl))))))
