use Rattle.std.proofs.Common.{refl}
use Rattle.std.proofs.lemmas.Result.{err_from_is_err_and}
use Rattle.dk_grammar.proofs.Stucks as S
use Rattle.verilog_parse.proofs.Fronts as F
use Rattle.verilog_parse.proofs.Shapes as C
use Rattle.verilog_parse.proofs.Loops as L
use Rattle.verilog_parse.proofs.port.ports.Goals as goal

pub returns-in_err-port : goal.returns-in_err-port
returns-in_err-port c =
    let p = err_from_is_err_and c.from_residual.result c.from_residual.ensures.1 in
    rw (p.1, p.2) (record { parsed = C.halts (λ at k. S.reached_stuck c.ports.invariant (S.listed_element F.close refl C.port k)) _ _ c.in_err-port.ensures.parsed })

pub returns-in_err-more : goal.returns-in_err-more
returns-in_err-more c =
    let p = err_from_is_err_and c.from_residual-in_err-more.result c.from_residual-in_err-more.ensures.1 in
    rw (p.1, p.2) (record { parsed = C.halts (λ at k. S.reached_stuck c.ports.invariant (S.listed_mark F.close refl C.port c.in_ok-port.ensures.parsed k)) _ _ c.in_err-more.ensures.parsed })

pub returns-then-not-more : goal.returns-then-not-more
returns-then-not-more c = record { parsed = L.last_port _ _ _ _ _ _ _ c.in_ok-more.more c.ports.invariant c.in_ok-port.ensures.parsed c.in_ok-more.ensures.parsed c.if-not-more.true c.in_ok-push.ensures.items }

pub ports-smaller : goal.ports-smaller
ports-smaller c = L.port_fewer c.in_ok-port.ensures.parsed c.in_ok-more.ensures.parsed

pub ports-preserved : goal.ports-preserved
ports-preserved c = L.next_port _ _ _ _ _ _ _ c.in_ok-more.more c.ports.invariant c.in_ok-port.ensures.parsed c.in_ok-more.ensures.parsed c.if-not-more.false c.in_ok-push.ensures.items
