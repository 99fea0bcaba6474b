use Rattle.std.proofs.lemmas.Result.{err_from_is_err_and}
use Rattle.dk_grammar.proofs.Clears.{clear_one}
use Rattle.dk_grammar.proofs.Stucks as S
use Rattle.verilog_parse.proofs.Fronts as F
use Rattle.verilog_parse.proofs.Shapes as C
use Rattle.verilog_parse.proofs.port.ranged.Goals as goal

pub returns-in_err-head : goal.returns-in_err-head
returns-in_err-head c =
    let p = err_from_is_err_and c.from_residual.result c.from_residual.ensures.1 in
    rw (p.1, p.2) (record { parsed = C.halts (λ at k. S.then_first (clear_one F.head_class) (λ x0. (C.after_head x0)) k) _ _ c.in_err-head.ensures.parsed })

pub returns-in_err-name : goal.returns-in_err-name
returns-in_err-name c =
    let p = err_from_is_err_and c.from_residual-in_err-name.result c.from_residual-in_err-name.ensures.1 in
    rw (p.1, p.2) (record { parsed = C.halts (λ at k. S.then_second (clear_one F.head_class) c.in_ok-head.ensures.parsed (k)) _ _ c.in_err-name.ensures.parsed })
