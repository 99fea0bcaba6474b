use Rattle.std.proofs.Common.{refl}
use Rattle.std.proofs.lemmas.Result.{err_from_is_err_and}
use Rattle.dk_grammar.proofs.Clears.{clear_done}
use Rattle.dk_grammar.proofs.Stucks as S
use Rattle.verilog_parse.proofs.Shapes as C
use Rattle.verilog_parse.proofs.Loops as L
use Rattle.verilog_parse.specs.Sections.{declaration, assign, block}
use Rattle.verilog_parse.proofs.module.section.Goals as goal

pub returns-in_err-declaration-in-Wire : goal.returns-in_err-declaration-in-Wire
returns-in_err-declaration-in-Wire c =
    let p = err_from_is_err_and c.from_residual.result c.from_residual.ensures.1 in
    rw (c.in-Wire.is, p.1, p.2) (record { parsed = C.halts (λ at k. S.then_first C.a_wire (λ x. clear_done _) k) _ _ c.in_err-declaration-in-Wire.ensures.parsed })

pub returns-in_ok-add-in-Wire : goal.returns-in_ok-add-in-Wire
returns-in_ok-add-in-Wire c =
    rw c.in-Wire.is (record { parsed = (declaration c.in_ok-declaration-in-Wire.declaration, (_, _, c.in_ok-declaration-in-Wire.ensures.parsed, (refl, refl)), L.adds_declaration _ _ _ refl refl c.in_ok-add-in-Wire.ensures.added refl refl) })

pub returns-in_err-declaration-in-Reg : goal.returns-in_err-declaration-in-Reg
returns-in_err-declaration-in-Reg c =
    let p = err_from_is_err_and c.from_residual-in_err-declaration-in-Reg.result c.from_residual-in_err-declaration-in-Reg.ensures.1 in
    rw (c.in-Reg.is, p.1, p.2) (record { parsed = C.halts (λ at k. S.then_first C.a_reg (λ x. clear_done _) k) _ _ c.in_err-declaration-in-Reg.ensures.parsed })

pub returns-in_ok-add-in-Reg : goal.returns-in_ok-add-in-Reg
returns-in_ok-add-in-Reg c =
    rw c.in-Reg.is (record { parsed = (declaration c.in_ok-declaration-in-Reg.declaration, (_, _, c.in_ok-declaration-in-Reg.ensures.parsed, (refl, refl)), L.adds_declaration _ _ _ refl refl c.in_ok-add-in-Reg.ensures.added refl refl) })

pub returns-in_err-next_assign-in-Assign : goal.returns-in_err-next_assign-in-Assign
returns-in_err-next_assign-in-Assign c =
    let p = err_from_is_err_and c.from_residual-in_err-next_assign-in-Assign.result c.from_residual-in_err-next_assign-in-Assign.ensures.1 in
    rw (c.in-Assign.is, p.1, p.2) (record { parsed = C.halts (λ at k. S.then_first C.an_assign (λ x. clear_done _) k) _ _ c.in_err-next_assign-in-Assign.ensures.parsed })

pub returns-in_ok-next_assign-in-Assign : goal.returns-in_ok-next_assign-in-Assign
returns-in_ok-next_assign-in-Assign c =
    let q = c.in_ok-next_assign-in-Assign.ensures.parsed in
    rw c.in-Assign.is (record { parsed = (assign q.0, (_, _, q.1, (refl, refl)), L.adds_assign _ _ _ refl refl refl q.2 refl) })

pub returns-in_err-block-in-Always : goal.returns-in_err-block-in-Always
returns-in_err-block-in-Always c =
    let p = err_from_is_err_and c.from_residual-in_err-block-in-Always.result c.from_residual-in_err-block-in-Always.ensures.1 in
    rw (c.in-Always.is, p.1, p.2) (record { parsed = C.halts (λ at k. S.then_first C.a_block (λ x. clear_done _) k) _ _ c.in_err-block-in-Always.ensures.parsed })

pub returns-in_ok-block-in-Always : goal.returns-in_ok-block-in-Always
returns-in_ok-block-in-Always c =
    let q = c.in_ok-block-in-Always.ensures.parsed in
    rw c.in-Always.is (record { parsed = (block q.0, (_, _, q.1, (refl, refl)), L.adds_block _ _ _ refl refl refl refl q.2) })
