use Rattle.std.proofs.Common.{refl}
use Rattle.std.proofs.lemmas.Result.{err_from_is_err_and}
use Rattle.dk_grammar.proofs.Clears.{clear_then, clear_done}
use Rattle.dk_grammar.proofs.Stucks as S
use Rattle.verilog_parse.proofs.Shapes as C
use Rattle.verilog_parse.proofs.port.after_head.Goals as goal

pub returns-in_err-range-in-Square : goal.returns-in_err-range-in-Square
returns-in_err-range-in-Square c =
    let p = err_from_is_err_and c.from_residual.result c.from_residual.ensures.1 in
    rw (c.in-Square.is, p.1, p.2) (record { parsed = C.halts (λ at k. S.then_first C.bits (λ x0. clear_then C.name (λ x1. clear_done _)) k) _ _ c.in_err-range-in-Square.ensures.parsed })

pub returns-in_err-name-in-Square : goal.returns-in_err-name-in-Square
returns-in_err-name-in-Square c =
    let p = err_from_is_err_and c.from_residual-in_err-name-in-Square.result c.from_residual-in_err-name-in-Square.ensures.1 in
    rw (c.in-Square.is, p.1, p.2) (record { parsed = C.halts (λ at k. S.then_second C.bits c.in_ok-range-in-Square.ensures.parsed (S.then_first C.name (λ x1. clear_done _) k)) _ _ c.in_err-name-in-Square.ensures.parsed })

pub returns-in_ok-name-in-Square : goal.returns-in_ok-name-in-Square
returns-in_ok-name-in-Square c = rw c.in-Square.is (record { parsed = (_, _, c.in_ok-range-in-Square.ensures.parsed, (_, _, c.in_ok-name-in-Square.ensures.parsed, (refl, refl))) })
