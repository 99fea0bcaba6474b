use Rattle.std.proofs.Common.{refl, arith, true, false}
use Rattle.std.proofs.lemmas.Result.{err_from_is_err_and}
use Rattle.dk_grammar.proofs.Clears.{clear_then, clear_done}
use Rattle.dk_grammar.proofs.Stucks as T
use Rattle.source_words.specs.declared.word.Keyword.TheVariants as word
use Rattle.dk_parser.specs.declared.terminal.Mark.TheVariants as mark
use Rattle.dk_parser.specs.Items as P
use Rattle.dk_parser.proofs.Tokens as K
use Rattle.dk_parser.proofs.Stucks as S
use Rattle.dk_parser.proofs.Keeping as Q
use Rattle.dk_parser.proofs.items.item.Goals as goal

pub returns-in_err-found-in-Input : goal.returns-in_err-found-in-Input
returns-in_err-found-in-Input c =
    let p = err_from_is_err_and c.from_residual.result c.from_residual.ensures.1 in rw (c.in-Input.is, p.1, p.2) (record { parsed = λ vs h. S.halts (λ at k. T.then_first Q.clear_input (λ z. clear_done _) k) _ c.in_err-found-in-Input.ensures.parsed; fewer = tt })

pub returns-in_ok-more-in-Input : goal.returns-in_ok-more-in-Input
returns-in_ok-more-in-Input c =
    rw c.in-Input.is (record { parsed = λ vs h. record { item = P.input c.in_ok-found-in-Input.found; phrase = (_, _, c.in_ok-found-in-Input.ensures.parsed, (refl, refl)); fewer = omega (arith, c.in_ok-found-in-Input.ensures.fewer); holds = c.in_ok-more-in-Input.ensures vs h }; fewer = omega (arith, c.in_ok-found-in-Input.ensures.fewer) })

pub returns-in_err-found-in-Let : goal.returns-in_err-found-in-Let
returns-in_err-found-in-Let c =
    let p = err_from_is_err_and c.from_residual-in_err-found-in-Let.result c.from_residual-in_err-found-in-Let.ensures.1 in rw (c.in-Let.is, p.1, p.2) (record { parsed = λ vs h. S.halts (λ at k. T.then_first (Q.clear_definition false) (λ z. clear_done _) k) _ c.in_err-found-in-Let.ensures.parsed; fewer = tt })

pub returns-in_ok-more-in-Let : goal.returns-in_ok-more-in-Let
returns-in_ok-more-in-Let c =
    rw c.in-Let.is (record { parsed = λ vs h. record { item = P.definition c.in_ok-found-in-Let.ensures.parsed.definition; phrase = (_, _, c.in_ok-found-in-Let.ensures.parsed.phrase, (refl, refl)); fewer = omega (arith, c.in_ok-found-in-Let.ensures.parsed.fewer); holds = c.in_ok-more-in-Let.ensures vs c.in_ok-found-in-Let.ensures.parsed.definition h c.in_ok-found-in-Let.ensures.parsed.is_draft }; fewer = omega (arith, c.in_ok-found-in-Let.ensures.parsed.fewer) })

pub returns-in_err-after-in-Inline : goal.returns-in_err-after-in-Inline
returns-in_err-after-in-Inline c =
    let p = err_from_is_err_and c.from_residual-in_err-after-in-Inline.result c.from_residual-in_err-after-in-Inline.ensures.1 in rw (c.in-Inline.is, p.1, p.2) (record { parsed = λ vs h. S.halts (λ at k. T.then_first (K.clear_mark (mark.Reserved word.Let)) (λ z. clear_then (Q.clear_definition true) (λ z. clear_done _)) k) _ c.in_err-after-in-Inline.ensures.parsed; fewer = tt })

pub returns-in_err-found-in-Inline : goal.returns-in_err-found-in-Inline
returns-in_err-found-in-Inline c =
    let p = err_from_is_err_and c.from_residual-in_err-found-in-Inline.result c.from_residual-in_err-found-in-Inline.ensures.1 in rw (c.in-Inline.is, p.1, p.2) (record { parsed = λ vs h. S.halts (λ at k. T.then_second (K.clear_mark (mark.Reserved word.Let)) c.in_ok-after-in-Inline.ensures.parsed (T.then_first (Q.clear_definition true) (λ z. clear_done _) k)) _ c.in_err-found-in-Inline.ensures.parsed; fewer = tt })

pub returns-in_ok-more-in-Inline : goal.returns-in_ok-more-in-Inline
returns-in_ok-more-in-Inline c =
    rw c.in-Inline.is (record { parsed = λ vs h. record { item = P.definition c.in_ok-found-in-Inline.ensures.parsed.definition; phrase = (_, _, c.in_ok-after-in-Inline.ensures.parsed, (_, _, c.in_ok-found-in-Inline.ensures.parsed.phrase, (refl, refl))); fewer = omega (arith, c.in_ok-found-in-Inline.ensures.parsed.fewer, c.in_ok-after-in-Inline.ensures.fewer); holds = c.in_ok-more-in-Inline.ensures vs c.in_ok-found-in-Inline.ensures.parsed.definition h c.in_ok-found-in-Inline.ensures.parsed.is_draft }; fewer = omega (arith, c.in_ok-found-in-Inline.ensures.parsed.fewer, c.in_ok-after-in-Inline.ensures.fewer) })

pub returns-in_err-found-in-Output : goal.returns-in_err-found-in-Output
returns-in_err-found-in-Output c =
    let p = err_from_is_err_and c.from_residual-in_err-found-in-Output.result c.from_residual-in_err-found-in-Output.ensures.1 in rw (c.in-Output.is, p.1, p.2) (record { parsed = λ vs h. S.halts (λ at k. T.then_first K.clear_name (λ z. clear_done _) k) _ c.in_err-found-in-Output.ensures.parsed; fewer = tt })

pub returns-in_ok-more-in-Output : goal.returns-in_ok-more-in-Output
returns-in_ok-more-in-Output c =
    rw c.in-Output.is (record { parsed = λ vs h. record { item = P.output c.in_ok-found-in-Output.found; phrase = (_, _, c.in_ok-found-in-Output.ensures.parsed, (refl, refl)); fewer = omega (arith, c.in_ok-found-in-Output.ensures.fewer); holds = c.in_ok-more-in-Output.ensures vs h }; fewer = omega (arith, c.in_ok-found-in-Output.ensures.fewer) })
