use Rattle.std.proofs.lemmas.Result.{err_from_is_err_and}
use Rattle.dk_grammar.proofs.Clears.{clear_one, clear_then, clear_done}
use Rattle.dk_grammar.proofs.Stucks as S
use Rattle.verilog_parse.proofs.Fronts as F
use Rattle.verilog_parse.proofs.Shapes as C
use Rattle.verilog_parse.proofs.port.port.Goals as goal

pub returns-in_err-direction : goal.returns-in_err-direction
returns-in_err-direction c =
    let p = err_from_is_err_and c.from_residual.result c.from_residual.ensures.1 in
    rw (p.1, p.2) (record { parsed = C.halts (λ at k. S.then_first (clear_one F.direction_class) (λ x0. clear_then (clear_one F.lead_class) (λ x1. clear_then (C.after_lead x1) (λ x2. clear_done _))) k) _ _ c.in_err-direction.ensures.parsed })

pub returns-in_err-lead : goal.returns-in_err-lead
returns-in_err-lead c =
    let p = err_from_is_err_and c.from_residual-in_err-lead.result c.from_residual-in_err-lead.ensures.1 in
    rw (p.1, p.2) (record { parsed = C.halts (λ at k. S.then_second (clear_one F.direction_class) c.in_ok-direction.ensures.parsed (S.then_first (clear_one F.lead_class) (λ x1. clear_then (C.after_lead x1) (λ x2. clear_done _)) k)) _ _ c.in_err-lead.ensures.parsed })

pub returns-in_err-found : goal.returns-in_err-found
returns-in_err-found c =
    let p = err_from_is_err_and c.from_residual-in_err-found.result c.from_residual-in_err-found.ensures.1 in
    rw (p.1, p.2) (record { parsed = C.halts (λ at k. S.then_second (clear_one F.direction_class) c.in_ok-direction.ensures.parsed (S.then_second (clear_one F.lead_class) c.in_ok-lead.ensures.parsed (S.then_first (C.after_lead c.in_ok-lead.lead) (λ x2. clear_done _) k))) _ _ c.in_err-found.ensures.parsed })
