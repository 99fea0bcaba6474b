use Rattle.std.proofs.lemmas.Result.{err_from_is_err_and}
use Rattle.dk_grammar.proofs.Clears.{clear_one, clear_done}
use Rattle.dk_grammar.proofs.Stucks as S
use Rattle.verilog_text.specs.declared.token.Symbol.TheVariants as symbol
use Rattle.verilog_parse.proofs.Fronts as F
use Rattle.verilog_parse.proofs.Shapes as C
use Rattle.verilog_parse.proofs.right.after_start.Goals as goal

pub returns-in_err-atom-in-Tilde : goal.returns-in_err-atom-in-Tilde
returns-in_err-atom-in-Tilde c =
    let p = err_from_is_err_and c.from_residual.result c.from_residual.ensures.1 in
    rw (c.in-Tilde.is, p.1, p.2) (record { parsed = C.halts (λ at k. S.then_first (C.closed symbol.Semicolon) (λ x0. clear_done _) k) _ _ c.in_err-atom-in-Tilde.ensures.parsed })

pub returns-in_err-item-in-Brace : goal.returns-in_err-item-in-Brace
returns-in_err-item-in-Brace c =
    let p = err_from_is_err_and c.from_residual-in_err-item-in-Brace.result c.from_residual-in_err-item-in-Brace.ensures.1 in
    rw (c.in-Brace.is, p.1, p.2) (record { parsed = C.halts (λ at k. S.then_first (clear_one F.item_class) (λ x0. (C.after_brace x0)) k) _ _ c.in_err-item-in-Brace.ensures.parsed })

pub returns-in_err-right-in-Brace : goal.returns-in_err-right-in-Brace
returns-in_err-right-in-Brace c =
    let p = err_from_is_err_and c.from_residual-in_err-right-in-Brace.result c.from_residual-in_err-right-in-Brace.ensures.1 in
    rw (c.in-Brace.is, p.1, p.2) (record { parsed = C.halts (λ at k. S.then_second (clear_one F.item_class) c.in_ok-item-in-Brace.ensures.parsed (k)) _ _ c.in_err-right-in-Brace.ensures.parsed })

pub returns-in_err-follow-in-Atom : goal.returns-in_err-follow-in-Atom
returns-in_err-follow-in-Atom c =
    let p = err_from_is_err_and c.from_residual-in_err-follow-in-Atom.result c.from_residual-in_err-follow-in-Atom.ensures.1 in
    rw (c.in-Atom.is, p.1, p.2) (record { parsed = C.halts (λ at k. S.then_first (clear_one (F.follow_class c.in-Atom.first)) (λ x0. (C.after_atom c.in-Atom.first x0)) k) _ _ c.in_err-follow-in-Atom.ensures.parsed })

pub returns-in_err-right-in-Atom : goal.returns-in_err-right-in-Atom
returns-in_err-right-in-Atom c =
    let p = err_from_is_err_and c.from_residual-in_err-right-in-Atom.result c.from_residual-in_err-right-in-Atom.ensures.1 in
    rw (c.in-Atom.is, p.1, p.2) (record { parsed = C.halts (λ at k. S.then_second (clear_one (F.follow_class c.in-Atom.first)) c.in_ok-follow-in-Atom.ensures.parsed (k)) _ _ c.in_err-right-in-Atom.ensures.parsed })
