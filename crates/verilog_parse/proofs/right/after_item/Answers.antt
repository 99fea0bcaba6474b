use Rattle.std.proofs.lemmas.Result.{err_from_is_err_and}
use Rattle.dk_grammar.proofs.Clears.{clear_one, clear_done}
use Rattle.dk_grammar.proofs.Stucks as S
use Rattle.verilog_text.specs.declared.token.Symbol.TheVariants as symbol
use Rattle.verilog_parse.proofs.Fronts as F
use Rattle.verilog_parse.proofs.Shapes as C
use Rattle.verilog_parse.proofs.right.after_item.Goals as goal

pub returns-in_err-more-in-Count : goal.returns-in_err-more-in-Count
returns-in_err-more-in-Count c =
    let p = err_from_is_err_and c.from_residual.result c.from_residual.ensures.1 in
    rw (c.in-Count.is, p.1, p.2) (record { parsed = C.halts (λ at k. S.then_first (clear_one F.colon_or_close_class) (λ x0. (C.after_first c.args.name c.in-Count.first x0)) k) _ _ c.in_err-more-in-Count.ensures.parsed })

pub returns-in_err-right-in-Count : goal.returns-in_err-right-in-Count
returns-in_err-right-in-Count c =
    let p = err_from_is_err_and c.from_residual-in_err-right-in-Count.result c.from_residual-in_err-right-in-Count.ensures.1 in
    rw (c.in-Count.is, p.1, p.2) (record { parsed = C.halts (λ at k. S.then_second (clear_one F.colon_or_close_class) c.in_ok-more-in-Count.ensures.parsed (k)) _ _ c.in_err-right-in-Count.ensures.parsed })

pub returns-in_err-ended-in-Atom : goal.returns-in_err-ended-in-Atom
returns-in_err-ended-in-Atom c =
    let p = err_from_is_err_and c.from_residual-in_err-ended-in-Atom.result c.from_residual-in_err-ended-in-Atom.ensures.1 in
    rw (c.in-Atom.is, p.1, p.2) (record { parsed = C.halts (λ at k. S.then_first (C.ended symbol.CloseSquare) (λ x0. clear_done _) k) _ _ c.in_err-ended-in-Atom.ensures.parsed })
