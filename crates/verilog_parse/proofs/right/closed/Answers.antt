use Rattle.std.proofs.lemmas.Result.{err_from_is_err_and}
use Rattle.dk_grammar.proofs.Clears.{clear_then, clear_done}
use Rattle.dk_grammar.proofs.Stucks as S
use Rattle.verilog_parse.proofs.Shapes as C
use Rattle.verilog_parse.proofs.right.closed.Goals as goal

pub returns-in_err-atom : goal.returns-in_err-atom
returns-in_err-atom c =
    let p = err_from_is_err_and c.from_residual.result c.from_residual.ensures.1 in
    rw (p.1, p.2) (record { parsed = C.halts (λ at k. S.then_first C.atomic (λ x0. clear_then (C.sign c.args.symbol) (λ x1. clear_done _)) k) _ _ c.in_err-atom.ensures.parsed })

pub returns-in_err-sign : goal.returns-in_err-sign
returns-in_err-sign c =
    let p = err_from_is_err_and c.from_residual-in_err-sign.result c.from_residual-in_err-sign.ensures.1 in
    rw (p.1, p.2) (record { parsed = C.halts (λ at k. S.then_second C.atomic c.in_ok-atom.ensures.parsed (S.then_first (C.sign c.args.symbol) (λ x1. clear_done _) k)) _ _ c.in_err-sign.ensures.parsed })
