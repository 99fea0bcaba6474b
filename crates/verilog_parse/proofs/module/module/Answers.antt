use Rattle.std.proofs.lemmas.Result.{err_from_is_err_and}
use Rattle.dk_grammar.proofs.Clears.{clear_then, clear_done}
use Rattle.dk_grammar.proofs.Stucks as S
use Rattle.verilog_parse.proofs.Loops.{module_read}
use Rattle.verilog_parse.proofs.Shapes as C
use Rattle.verilog_parse.proofs.module.module.Goals as goal

pub returns-in_err-written : goal.returns-in_err-written
returns-in_err-written c =
    let p = err_from_is_err_and c.from_residual.result c.from_residual.ensures.1 in
    rw (p.1, p.2) (record { parsed = C.halts (λ at k. S.then_first C.head (λ x0. clear_then C.sections_all (λ x1. clear_then C.the_end (λ x2. clear_done _))) k) _ _ c.in_err-written.ensures.parsed })

pub returns-in_err-sections : goal.returns-in_err-sections
returns-in_err-sections c =
    let p = err_from_is_err_and c.from_residual-in_err-sections.result c.from_residual-in_err-sections.ensures.1 in
    rw (p.1, p.2) (record { parsed = C.halts (λ at k. S.then_second C.head c.in_ok-written.ensures.parsed (S.then_first C.sections_all (λ x1. clear_then C.the_end (λ x2. clear_done _)) k)) _ _ c.in_err-sections.ensures.parsed })

pub returns-in_err-end : goal.returns-in_err-end
returns-in_err-end c =
    let p = err_from_is_err_and c.from_residual-in_err-end.result c.from_residual-in_err-end.ensures.1 in
    rw (p.1, p.2) (record { parsed = C.halts (λ at k. S.then_second C.head c.in_ok-written.ensures.parsed (S.then_second C.sections_all c.in_ok-sections.ensures.parsed.1 (S.then_first C.the_end (λ x2. clear_done _) k))) _ _ c.in_err-end.ensures.parsed })

pub returns : goal.returns
returns c = record { parsed = module_read c.in_ok-written.ensures.parsed c.in_ok-sections.ensures.parsed.1 c.in_ok-end.ensures.parsed c.in_ok-sections.ensures.parsed.2 }
