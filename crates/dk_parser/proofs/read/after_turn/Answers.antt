use Rattle.std.proofs.lemmas.Result.{err_from_is_err_and}
use Rattle.dk_grammar.proofs.Clears.{clear_then, clear_done}
use Rattle.dk_grammar.proofs.Stucks as T
use Rattle.dk_parser.proofs.Tokens as K
use Rattle.dk_parser.proofs.Stucks as S
use Rattle.dk_parser.proofs.read.after_turn.Goals as goal

pub returns-in_err-amount-in-Signed : goal.returns-in_err-amount-in-Signed
returns-in_err-amount-in-Signed c =
    let p = err_from_is_err_and c.from_residual.result c.from_residual.ensures.1 in rw (c.in-Signed.is, p.1, p.2) (record { parsed = S.halts (λ at k. T.then_first K.clear_literal (λ n. clear_then (K.clear_mark c.args.mark) (λ s. clear_done _)) k) _ c.in_err-amount-in-Signed.ensures.parsed; fewer = tt })

pub returns-in_err-span-in-Signed : goal.returns-in_err-span-in-Signed
returns-in_err-span-in-Signed c =
    let p = err_from_is_err_and c.from_residual-in_err-span-in-Signed.result c.from_residual-in_err-span-in-Signed.ensures.1 in rw (c.in-Signed.is, p.1, p.2) (record { parsed = S.halts (λ at k. T.then_second K.clear_literal c.in_ok-amount-in-Signed.ensures.parsed (T.then_first (K.clear_mark c.args.mark) (λ s. clear_done _) k)) _ c.in_err-span-in-Signed.ensures.parsed; fewer = tt })
