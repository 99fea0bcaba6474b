use Rattle.std.proofs.Common.{refl, arith}
use Rattle.std.proofs.lemmas.Result.{err_from_is_err_and}
use Rattle.dk_grammar.proofs.Clears.{clear_then, clear_done}
use Rattle.dk_grammar.proofs.Stucks as T
use Rattle.source_words.specs.declared.word.Keyword.TheVariants as word
use Rattle.dk_parser.specs.declared.terminal.Mark.TheVariants as mark
use Rattle.dk_parser.proofs.Tokens as K
use Rattle.dk_parser.proofs.Stucks as S
use Rattle.dk_parser.proofs.Keeping as Q
use Rattle.dk_parser.proofs.items.definition.Goals as goal

pub returns-in_err-name : goal.returns-in_err-name
returns-in_err-name c =
    let p = err_from_is_err_and c.from_residual.result c.from_residual.ensures.1 in rw (p.1, p.2) (record { parsed = S.halts (λ at k. T.then_first K.clear_name (λ z. clear_then Q.clear_declared (λ z. clear_then Q.clear_header (λ z. clear_then (S.clear_closed (mark.Reserved word.End) refl) (λ z. clear_done _)))) k) _ c.in_err-name.ensures.parsed })

pub returns-in_err-declared : goal.returns-in_err-declared
returns-in_err-declared c =
    let p = err_from_is_err_and c.from_residual-in_err-declared.result c.from_residual-in_err-declared.ensures.1 in rw (p.1, p.2) (record { parsed = S.halts (λ at k. T.then_second K.clear_name c.in_ok-name.ensures.parsed (T.then_first Q.clear_declared (λ z. clear_then Q.clear_header (λ z. clear_then (S.clear_closed (mark.Reserved word.End) refl) (λ z. clear_done _))) k)) _ c.in_err-declared.ensures.parsed })

pub returns-in_err-body_at : goal.returns-in_err-body_at
returns-in_err-body_at c =
    let p = err_from_is_err_and c.from_residual-in_err-body_at.result c.from_residual-in_err-body_at.ensures.1 in rw (p.1, p.2) (record { parsed = S.halts (λ at k. T.then_second K.clear_name c.in_ok-name.ensures.parsed (T.then_second Q.clear_declared c.in_ok-declared.ensures.parsed (T.then_first Q.clear_header (λ z. clear_then (S.clear_closed (mark.Reserved word.End) refl) (λ z. clear_done _)) k))) _ c.in_err-body_at.ensures.parsed })

pub returns-in_err-body : goal.returns-in_err-body
returns-in_err-body c =
    let p = err_from_is_err_and c.from_residual-in_err-body.result c.from_residual-in_err-body.ensures.1 in rw (p.1, p.2) (record { parsed = S.halts (λ at k. T.then_second K.clear_name c.in_ok-name.ensures.parsed (T.then_second Q.clear_declared c.in_ok-declared.ensures.parsed (T.then_second Q.clear_header c.in_ok-body_at.ensures.parsed (T.then_first (S.clear_closed (mark.Reserved word.End) refl) (λ z. clear_done _) k)))) _ c.in_err-body.ensures.parsed })

pub returns : goal.returns
returns c =
    let b = c.in_ok-body.ensures.parsed in record { parsed = record { definition = _; phrase = (_, _, c.in_ok-name.ensures.parsed, (_, _, c.in_ok-declared.ensures.parsed, (_, _, c.in_ok-body_at.ensures.parsed, (_, _, c.in_ok-body.ensures.parsed.phrase, (refl, refl))))); fewer = omega (arith, c.in_ok-name.ensures.fewer, c.in_ok-declared.ensures.fewer, c.in_ok-body_at.ensures.fewer, b.fewer); is_draft = record { inline = refl; name = refl; declared = refl; body = b.stands } } }
