use Rattle.std.proofs.lemmas.Result.{err_from_is_err_and}
use Rattle.verilog_parse.proofs.Shapes as C
use Rattle.verilog_parse.proofs.port.after_lead.Goals as goal

pub returns-in_err-name-in-Wire : goal.returns-in_err-name-in-Wire
returns-in_err-name-in-Wire c =
    let p = err_from_is_err_and c.from_residual.result c.from_residual.ensures.1 in
    rw (c.in-Wire.is, p.1, p.2) (record { parsed = C.halts (λ at k. k) _ _ c.in_err-name-in-Wire.ensures.parsed })

pub returns-in_err-name-in-Head : goal.returns-in_err-name-in-Head
returns-in_err-name-in-Head c =
    let p = err_from_is_err_and c.from_residual-in_err-name-in-Head.result c.from_residual-in_err-name-in-Head.ensures.1 in
    rw (c.in-Head.is, p.1, p.2) (record { parsed = C.halts (λ at k. k) _ _ c.in_err-name-in-Head.ensures.parsed })
