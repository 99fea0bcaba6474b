use Rattle.std.proofs.lemmas.Result.{err_from_is_err_and}
use Rattle.dk_grammar.proofs.Clears.{clear_one}
use Rattle.dk_grammar.proofs.Stucks as T
use Rattle.dk_parser.proofs.Stucks as S
use Rattle.dk_parser.proofs.Keeping as Q
use Rattle.dk_parser.proofs.items.declared.Goals as goal

pub returns-in_err-is_there : goal.returns-in_err-is_there
returns-in_err-is_there c =
    let p = err_from_is_err_and c.from_residual.result c.from_residual.ensures.1 in rw (p.1, p.2) (record { parsed = S.halts (λ at k. T.then_first (clear_one Q.declares_class) (λ b. Q.clear_after b) k) _ c.in_err-is_there.ensures.parsed; fewer = tt })

pub returns-in_err-ty : goal.returns-in_err-ty
returns-in_err-ty c =
    let p = err_from_is_err_and c.from_residual-in_err-ty.result c.from_residual-in_err-ty.ensures.1 in rw (p.1, p.2) (record { parsed = S.halts (λ at k. T.then_second (clear_one Q.declares_class) c.in_ok-is_there.ensures.parsed k) _ c.in_err-ty.ensures.parsed; fewer = tt })
