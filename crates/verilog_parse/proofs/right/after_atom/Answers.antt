use Rattle.std.proofs.Common.{refl}
use Rattle.std.proofs.lemmas.Result.{err_from_is_err_and}
use Rattle.dk_grammar.proofs.Clears.{clear_one, clear_then, clear_done}
use Rattle.dk_grammar.proofs.Stucks as S
use Rattle.verilog_text.specs.declared.token.Symbol.TheVariants as symbol
use Rattle.verilog_parse.proofs.Fronts as F
use Rattle.verilog_parse.proofs.Shapes as C
use Rattle.verilog_parse.proofs.right.after_atom.Goals as goal

pub returns-in_err-second-in-Operator : goal.returns-in_err-second-in-Operator
returns-in_err-second-in-Operator c =
    let p = err_from_is_err_and c.from_residual.result c.from_residual.ensures.1 in
    rw (c.in-Operator.is, p.1, p.2) (record { parsed = C.halts (λ at k. S.then_first (C.closed symbol.Semicolon) (λ x0. clear_done _) k) _ _ c.in_err-second-in-Operator.ensures.parsed })

pub returns-in_err-second-in-Question : goal.returns-in_err-second-in-Question
returns-in_err-second-in-Question c =
    let p = err_from_is_err_and c.from_residual-in_err-second-in-Question.result c.from_residual-in_err-second-in-Question.ensures.1 in
    rw (c.in-Question.is, p.1, p.2) (record { parsed = C.halts (λ at k. S.then_first (C.closed symbol.Colon) (λ x0. clear_then (C.closed symbol.Semicolon) (λ x1. clear_done _)) k) _ _ c.in_err-second-in-Question.ensures.parsed })

pub returns-in_err-third-in-Question : goal.returns-in_err-third-in-Question
returns-in_err-third-in-Question c =
    let p = err_from_is_err_and c.from_residual-in_err-third-in-Question.result c.from_residual-in_err-third-in-Question.ensures.1 in
    rw (c.in-Question.is, p.1, p.2) (record { parsed = C.halts (λ at k. S.then_second (C.closed symbol.Colon) c.in_ok-second-in-Question.ensures.parsed (S.then_first (C.closed symbol.Semicolon) (λ x1. clear_done _) k)) _ _ c.in_err-third-in-Question.ensures.parsed })

pub returns-in_ok-third-in-Question : goal.returns-in_ok-third-in-Question
returns-in_ok-third-in-Question c = rw c.in-Question.is (record { parsed = (_, _, c.in_ok-second-in-Question.ensures.parsed, (_, _, c.in_ok-third-in-Question.ensures.parsed, (refl, refl))) })

pub returns-in_err-item-in-Square : goal.returns-in_err-item-in-Square
returns-in_err-item-in-Square c =
    let p = err_from_is_err_and c.from_residual-in_err-item-in-Square.result c.from_residual-in_err-item-in-Square.ensures.1 in
    rw (c.in-Square.is, p.1, p.2) (record { parsed = C.halts (λ at k. S.then_first (clear_one F.item_class) (λ x0. (C.after_item c.in-Square.name x0)) k) _ _ c.in_err-item-in-Square.ensures.parsed })

pub returns-in_err-right-in-Square : goal.returns-in_err-right-in-Square
returns-in_err-right-in-Square c =
    let p = err_from_is_err_and c.from_residual-in_err-right-in-Square.result c.from_residual-in_err-right-in-Square.ensures.1 in
    rw (c.in-Square.is, p.1, p.2) (record { parsed = C.halts (λ at k. S.then_second (clear_one F.item_class) c.in_ok-item-in-Square.ensures.parsed (k)) _ _ c.in_err-right-in-Square.ensures.parsed })
