use Rattle.std.proofs.lemmas.Result.{err_from_is_err_and}
use Rattle.dk_grammar.proofs.Clears.{clear_one}
use Rattle.dk_grammar.proofs.Stucks as S
use Rattle.verilog_parse.proofs.Fronts as F
use Rattle.verilog_parse.proofs.Shapes as C
use Rattle.verilog_parse.proofs.update.updates.Goals as goal

pub returns-in_err-first : goal.returns-in_err-first
returns-in_err-first c =
    let p = err_from_is_err_and c.from_residual.result c.from_residual.ensures.1 in
    rw (p.1, p.2) (record { parsed = C.halts (λ at k. S.then_first (clear_one F.target_class) (λ x0. (C.updates_from x0)) k) _ _ c.in_err-first.ensures.parsed })

pub returns-in_err-updates_from : goal.returns-in_err-updates_from
returns-in_err-updates_from c =
    let p = err_from_is_err_and c.from_residual-in_err-updates_from.result c.from_residual-in_err-updates_from.ensures.1 in
    rw (p.1, p.2) (record { parsed = C.halts (λ at k. S.then_second (clear_one F.target_class) c.in_ok-first.ensures.parsed (k)) _ _ c.in_err-updates_from.ensures.parsed })

pub returns : goal.returns
returns c =
    let q = c.in_ok-updates_from.ensures.parsed in
    record { parsed = (q.0, (_, _, c.in_ok-first.ensures.parsed, q.1), q.2) }
