use Rattle.std.proofs.Common.{sym}
use Rattle.std.proofs.lemmas.Result.{err_from_is_err_and}
use Rattle.verilog_parse.proofs.Shapes as C
use Rattle.verilog_parse.proofs.Loops as L
use Rattle.verilog_parse.proofs.module.sections_from.Goals as goal

pub section-requires : goal.section-requires
section-requires c = sym c.if-is_last_section.ensures

pub returns-then-is_last_section : goal.returns-then-is_last_section
returns-then-is_last_section c = record { parsed = L.sections_end c.sections.invariant (sym c.if-is_last_section.ensures) }

pub returns-in_err-section : goal.returns-in_err-section
returns-in_err-section c =
    let p = err_from_is_err_and c.from_residual.result c.from_residual.ensures.1 in
    rw (p.1, p.2) (record { parsed = C.halts (L.sections_element c.sections.invariant (sym c.if-is_last_section.ensures)) _ _ c.in_err-section.ensures.parsed })

pub returns-in_err-next : goal.returns-in_err-next
returns-in_err-next c =
    let p = err_from_is_err_and c.from_residual-in_err-next.result c.from_residual-in_err-next.ensures.1 in
    let q = c.in_ok-section.ensures.parsed in
    rw (p.1, p.2) (record { parsed = C.halts (L.sections_mark q.0 c.sections.invariant (sym c.if-is_last_section.ensures) q.1) _ _ c.in_err-next.ensures.parsed })

pub sections-smaller : goal.sections-smaller
sections-smaller c = let q = c.in_ok-section.ensures.parsed in L.section_fewer c.sections.next c.sections.tokens q.0 (sym c.if-is_last_section.ensures) q.1 c.in_ok-next.ensures.parsed

pub sections-preserved : goal.sections-preserved
sections-preserved c = let q = c.in_ok-section.ensures.parsed in L.sections_next q.0 c.sections.invariant (sym c.if-is_last_section.ensures) q.1 c.in_ok-next.ensures.parsed q.2
