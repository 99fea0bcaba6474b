use Rattle.std.proofs.lemmas.Result.{err_from_is_err_and}
use Rattle.dk_grammar.proofs.Clears.{clear_then, clear_done}
use Rattle.dk_grammar.proofs.Stucks as T
use Rattle.dk_parser.specs.declared.items.Lead.TheVariants as lead
use Rattle.source_words.specs.declared.word.Keyword.TheVariants as word
use Rattle.dk_parser.specs.declared.terminal.Mark.TheVariants as mark
use Rattle.dk_parser.proofs.Tokens as K
use Rattle.dk_parser.proofs.Stucks as S
use Rattle.dk_parser.proofs.Keeping as Q
use Rattle.dk_parser.proofs.whole.program.Goals as goal

pub returns-in_err-width_at : goal.returns-in_err-width_at
returns-in_err-width_at c =
    let p = err_from_is_err_and c.from_residual.result c.from_residual.ensures.1 in rw (p.1, p.2) (record { parsed = S.halts (λ at k. T.then_first (K.clear_mark (mark.Reserved word.Size)) (λ z. clear_then K.clear_literal (λ z. clear_then K.clear_literal (λ z. clear_then (K.clear_mark (mark.Reserved word.Input)) (λ z. clear_then (Q.clear_items lead.Input) (λ z. clear_done _))))) k) _ c.in_err-width_at.ensures.parsed })

pub returns-in_err-width : goal.returns-in_err-width
returns-in_err-width c =
    let p = err_from_is_err_and c.from_residual-in_err-width.result c.from_residual-in_err-width.ensures.1 in rw (p.1, p.2) (record { parsed = S.halts (λ at k. T.then_second (K.clear_mark (mark.Reserved word.Size)) c.in_ok-width_at.ensures.parsed (T.then_first K.clear_literal (λ z. clear_then K.clear_literal (λ z. clear_then (K.clear_mark (mark.Reserved word.Input)) (λ z. clear_then (Q.clear_items lead.Input) (λ z. clear_done _)))) k)) _ c.in_err-width.ensures.parsed })

pub returns-in_err-height : goal.returns-in_err-height
returns-in_err-height c =
    let p = err_from_is_err_and c.from_residual-in_err-height.result c.from_residual-in_err-height.ensures.1 in rw (p.1, p.2) (record { parsed = S.halts (λ at k. T.then_second (K.clear_mark (mark.Reserved word.Size)) c.in_ok-width_at.ensures.parsed (T.then_second K.clear_literal c.in_ok-width.ensures.parsed (T.then_first K.clear_literal (λ z. clear_then (K.clear_mark (mark.Reserved word.Input)) (λ z. clear_then (Q.clear_items lead.Input) (λ z. clear_done _))) k))) _ c.in_err-height.ensures.parsed })

pub returns-in_err-items_at : goal.returns-in_err-items_at
returns-in_err-items_at c =
    let p = err_from_is_err_and c.from_residual-in_err-items_at.result c.from_residual-in_err-items_at.ensures.1 in rw (p.1, p.2) (record { parsed = S.halts (λ at k. T.then_second (K.clear_mark (mark.Reserved word.Size)) c.in_ok-width_at.ensures.parsed (T.then_second K.clear_literal c.in_ok-width.ensures.parsed (T.then_second K.clear_literal c.in_ok-height.ensures.parsed (T.then_first (K.clear_mark (mark.Reserved word.Input)) (λ z. clear_then (Q.clear_items lead.Input) (λ z. clear_done _)) k)))) _ c.in_err-items_at.ensures.parsed })

pub returns-in_err-parts : goal.returns-in_err-parts
returns-in_err-parts c =
    let p = err_from_is_err_and c.from_residual-in_err-parts.result c.from_residual-in_err-parts.ensures.1 in rw (p.1, p.2) (record { parsed = S.halts (λ at k. T.then_second (K.clear_mark (mark.Reserved word.Size)) c.in_ok-width_at.ensures.parsed (T.then_second K.clear_literal c.in_ok-width.ensures.parsed (T.then_second K.clear_literal c.in_ok-height.ensures.parsed (T.then_second (K.clear_mark (mark.Reserved word.Input)) c.in_ok-items_at.ensures.parsed (T.then_first (Q.clear_items lead.Input) (λ z. clear_done _) k))))) _ c.in_err-parts.ensures.parsed })
