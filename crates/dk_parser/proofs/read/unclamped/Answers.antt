use Rattle.std.proofs.lemmas.Result.{err_from_is_err_and}
use Rattle.dk_grammar.proofs.Stucks as T
use Rattle.dk_parser.proofs.Tokens as K
use Rattle.dk_parser.proofs.ReadLaws as L
use Rattle.dk_parser.proofs.Stucks as S
use Rattle.dk_parser.proofs.read.unclamped.Goals as goal

pub returns-in_err-name : goal.returns-in_err-name
returns-in_err-name c =
    let p = err_from_is_err_and c.from_residual.result c.from_residual.ensures.1 in rw (p.1, p.2) (record { parsed = S.halts (λ at k. T.then_first K.clear_name (λ n. L.clear_point n) k) _ c.in_err-name.ensures.parsed; fewer = tt })

pub returns-in_err-span : goal.returns-in_err-span
returns-in_err-span c =
    let p = err_from_is_err_and c.from_residual-in_err-span.result c.from_residual-in_err-span.ensures.1 in rw (p.1, p.2) (record { parsed = S.halts (λ at k. T.then_second K.clear_name c.in_ok-name.ensures.parsed k) _ c.in_err-span.ensures.parsed; fewer = tt })

pub returns-clause-parsed : goal.returns-clause-parsed
returns-clause-parsed c =
    (_, _, c.in_ok-name.ensures.parsed, c.in_ok-span.ensures.parsed)
