use Rattle.std.proofs.lemmas.Result.{err_from_is_err_and}
use Rattle.verilog_parse.proofs.Shapes as C
use Rattle.verilog_parse.proofs.Loops as L
use Rattle.verilog_parse.proofs.update.updates_from.Goals as goal

pub returns-in_default : goal.returns-in_default
returns-in_default c = record { parsed = L.updates_end c.updates.invariant c.in_default.is }

pub returns-in_err-next_update : goal.returns-in_err-next_update
returns-in_err-next_update c =
    let p = err_from_is_err_and c.from_residual.result c.from_residual.ensures.1 in
    rw (p.1, p.2) (record { parsed = C.halts (L.updates_element c.updates.invariant c.in-Name.is) _ _ c.in_err-next_update.ensures.parsed })

pub returns-in_err-target : goal.returns-in_err-target
returns-in_err-target c =
    let p = err_from_is_err_and c.from_residual-in_err-target.result c.from_residual-in_err-target.ensures.1 in
    rw (p.1, p.2) (record { parsed = C.halts (L.updates_mark c.updates.invariant c.in-Name.is c.in_ok-next_update.ensures.parsed.1) _ _ c.in_err-target.ensures.parsed })

pub updates-smaller : goal.updates-smaller
updates-smaller c = L.update_fewer c.in_ok-next_update.ensures.parsed.1 c.in_ok-target.ensures.parsed

pub updates-preserved : goal.updates-preserved
updates-preserved c = let q = c.in_ok-next_update.ensures.parsed in L.updates_next c.updates.invariant c.in-Name.is q.1 c.in_ok-target.ensures.parsed q.2
