use Rattle.std.proofs.lemmas.Result.{err_from_is_err_and}
use Rattle.dk_lexer.specs.declared.token.Symbol.TheVariants.{Equal}
use Rattle.dk_grammar.proofs.Clears.{clear_then, clear_done}
use Rattle.dk_grammar.proofs.Stucks as T
use Rattle.dk_parser.specs.declared.terminal.Mark.TheVariants as mark
use Rattle.dk_parser.proofs.Tokens as K
use Rattle.dk_parser.proofs.Stucks as S
use Rattle.dk_parser.proofs.items.after_declares.Goals as goal

pub returns-in_err-ty-in-true : goal.returns-in_err-ty-in-true
returns-in_err-ty-in-true c =
    let p = err_from_is_err_and c.from_residual.result c.from_residual.ensures.1 in rw (c.in-true.is, p.1, p.2) (record { parsed = S.halts (λ at k. T.then_first K.clear_type (λ t. clear_then (K.clear_mark (mark.Sign Equal)) (λ s. clear_done _)) k) _ c.in_err-ty-in-true.ensures.parsed; fewer = tt })

pub returns-in_err-rest-in-true : goal.returns-in_err-rest-in-true
returns-in_err-rest-in-true c =
    let p = err_from_is_err_and c.from_residual-in_err-rest-in-true.result c.from_residual-in_err-rest-in-true.ensures.1 in rw (c.in-true.is, p.1, p.2) (record { parsed = S.halts (λ at k. T.then_second K.clear_type c.in_ok-ty-in-true.ensures.parsed (T.then_first (K.clear_mark (mark.Sign Equal)) (λ s. clear_done _) k)) _ c.in_err-rest-in-true.ensures.parsed; fewer = tt })
