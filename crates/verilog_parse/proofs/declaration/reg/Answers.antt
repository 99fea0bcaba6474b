use Rattle.std.proofs.lemmas.Result.{err_from_is_err_and}
use Rattle.dk_grammar.proofs.Clears.{clear_one, clear_then}
use Rattle.dk_grammar.proofs.Stucks as S
use Rattle.verilog_parse.proofs.Fronts as F
use Rattle.verilog_parse.proofs.Shapes as C
use Rattle.verilog_parse.proofs.declaration.reg.Goals as goal

pub returns-in_err-found : goal.returns-in_err-found
returns-in_err-found c =
    let p = err_from_is_err_and c.from_residual.result c.from_residual.ensures.1 in
    rw (p.1, p.2) (record { parsed = C.halts (λ at k. S.then_first C.ranged (λ x0. clear_then (clear_one F.tail_class) (λ x1. (C.after_reg x0 x1))) k) _ _ c.in_err-found.ensures.parsed })

pub returns-in_err-tail : goal.returns-in_err-tail
returns-in_err-tail c =
    let p = err_from_is_err_and c.from_residual-in_err-tail.result c.from_residual-in_err-tail.ensures.1 in
    rw (p.1, p.2) (record { parsed = C.halts (λ at k. S.then_second C.ranged c.in_ok-found.ensures.parsed (S.then_first (clear_one F.tail_class) (λ x1. (C.after_reg c.in_ok-found.found x1)) k)) _ _ c.in_err-tail.ensures.parsed })

pub returns-in_err-declaration : goal.returns-in_err-declaration
returns-in_err-declaration c =
    let p = err_from_is_err_and c.from_residual-in_err-declaration.result c.from_residual-in_err-declaration.ensures.1 in
    rw (p.1, p.2) (record { parsed = C.halts (λ at k. S.then_second C.ranged c.in_ok-found.ensures.parsed (S.then_second (clear_one F.tail_class) c.in_ok-tail.ensures.parsed (k))) _ _ c.in_err-declaration.ensures.parsed })
