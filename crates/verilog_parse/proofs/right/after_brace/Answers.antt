use Rattle.std.proofs.Common.{refl}
use Rattle.std.proofs.lemmas.Result.{err_from_is_err_and}
use Rattle.dk_grammar.proofs.Clears.{clear_then, clear_done}
use Rattle.dk_grammar.proofs.Stucks as S
use Rattle.verilog_text.specs.declared.token.Symbol.TheVariants as symbol
use Rattle.verilog_parse.proofs.Shapes as C
use Rattle.verilog_parse.proofs.right.after_brace.Goals as goal

pub returns-in_err-sign-in-Count : goal.returns-in_err-sign-in-Count
returns-in_err-sign-in-Count c =
    let p = err_from_is_err_and c.from_residual.result c.from_residual.ensures.1 in
    rw (c.in-Count.is, p.1, p.2) (record { parsed = C.halts (λ at k. S.then_first (C.sign symbol.OpenBrace) (λ x0. clear_then (C.closed symbol.CloseBrace) (λ x1. clear_then (C.ended symbol.CloseBrace) (λ x2. clear_done _))) k) _ _ c.in_err-sign-in-Count.ensures.parsed })

pub returns-in_err-atom-in-Count : goal.returns-in_err-atom-in-Count
returns-in_err-atom-in-Count c =
    let p = err_from_is_err_and c.from_residual-in_err-atom-in-Count.result c.from_residual-in_err-atom-in-Count.ensures.1 in
    rw (c.in-Count.is, p.1, p.2) (record { parsed = C.halts (λ at k. S.then_second (C.sign symbol.OpenBrace) c.in_ok-sign-in-Count.ensures.parsed (S.then_first (C.closed symbol.CloseBrace) (λ x1. clear_then (C.ended symbol.CloseBrace) (λ x2. clear_done _)) k)) _ _ c.in_err-atom-in-Count.ensures.parsed })

pub returns-in_err-ended-in-Count : goal.returns-in_err-ended-in-Count
returns-in_err-ended-in-Count c =
    let p = err_from_is_err_and c.from_residual-in_err-ended-in-Count.result c.from_residual-in_err-ended-in-Count.ensures.1 in
    rw (c.in-Count.is, p.1, p.2) (record { parsed = C.halts (λ at k. S.then_second (C.sign symbol.OpenBrace) c.in_ok-sign-in-Count.ensures.parsed (S.then_second (C.closed symbol.CloseBrace) c.in_ok-atom-in-Count.ensures.parsed (S.then_first (C.ended symbol.CloseBrace) (λ x2. clear_done _) k))) _ _ c.in_err-ended-in-Count.ensures.parsed })

pub returns-in_ok-ended-in-Count : goal.returns-in_ok-ended-in-Count
returns-in_ok-ended-in-Count c = rw c.in-Count.is (record { parsed = (tt, _, c.in_ok-sign-in-Count.ensures.parsed, (_, _, c.in_ok-atom-in-Count.ensures.parsed, (tt, _, c.in_ok-ended-in-Count.ensures.parsed, (refl, refl)))) })

pub returns-in_err-sign-in-Atom : goal.returns-in_err-sign-in-Atom
returns-in_err-sign-in-Atom c =
    let p = err_from_is_err_and c.from_residual-in_err-sign-in-Atom.result c.from_residual-in_err-sign-in-Atom.ensures.1 in
    rw (c.in-Atom.is, p.1, p.2) (record { parsed = C.halts (λ at k. S.then_first (C.sign symbol.Comma) (λ x0. clear_then C.atomic (λ x1. clear_then (C.ended symbol.CloseBrace) (λ x2. clear_done _))) k) _ _ c.in_err-sign-in-Atom.ensures.parsed })

pub returns-in_err-second-in-Atom : goal.returns-in_err-second-in-Atom
returns-in_err-second-in-Atom c =
    let p = err_from_is_err_and c.from_residual-in_err-second-in-Atom.result c.from_residual-in_err-second-in-Atom.ensures.1 in
    rw (c.in-Atom.is, p.1, p.2) (record { parsed = C.halts (λ at k. S.then_second (C.sign symbol.Comma) c.in_ok-sign-in-Atom.ensures.parsed (S.then_first C.atomic (λ x1. clear_then (C.ended symbol.CloseBrace) (λ x2. clear_done _)) k)) _ _ c.in_err-second-in-Atom.ensures.parsed })

pub returns-in_err-ended-in-Atom : goal.returns-in_err-ended-in-Atom
returns-in_err-ended-in-Atom c =
    let p = err_from_is_err_and c.from_residual-in_err-ended-in-Atom.result c.from_residual-in_err-ended-in-Atom.ensures.1 in
    rw (c.in-Atom.is, p.1, p.2) (record { parsed = C.halts (λ at k. S.then_second (C.sign symbol.Comma) c.in_ok-sign-in-Atom.ensures.parsed (S.then_second C.atomic c.in_ok-second-in-Atom.ensures.parsed (S.then_first (C.ended symbol.CloseBrace) (λ x2. clear_done _) k))) _ _ c.in_err-ended-in-Atom.ensures.parsed })
