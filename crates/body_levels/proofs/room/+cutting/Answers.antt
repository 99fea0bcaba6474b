use Rattle.std.proofs.Common.{◌≡◌, ◌∙◌, Bool, ap, sym, subst}
use Rattle.pointwise_ir.specs.declared.expr.Expr.{Expr}
use Rattle.pointwise_ir.specs.Trees.{tree_of}
use Rattle.body_levels.specs.Operators.{binary_levels}
use Rattle.body_levels.specs.Levels.{has_power}
use Rattle.body_levels.specs.Reasons as reasons
use Rattle.body_levels.specs.Counted.{IsCount}
use Rattle.body_levels.proofs.Pairs.{of_double, of_triple}
use Rattle.body_levels.proofs.room.+cutting.Goals as goal

pub returns-in-Binary : goal.returns-in-Binary
returns-in-Binary t c =
    let left = tree_of c.in-Binary.left.value in
    let right = tree_of c.in-Binary.right.value in
    let first = ap (λ (e : Expr). has_power (tree_of e) (tree_of c.deref-in-Binary-2.result.now)) c.deref-in-Binary.ensures in
    let second = ap (λ (e : Expr). has_power left (tree_of e)) c.deref-in-Binary-2.ensures in
    let own : c.binary_levels.result ≡ binary_levels c.in-Binary.op (has_power left right) = c.binary_levels.ensures.value ∙ ap (λ (b : Bool). binary_levels c.in-Binary.op b) (c.has_power.ensures ∙ first ∙ second) in
    let have = c.double.ensures _ _ c.cutting-in-Binary.ensures c.cutting-in-Binary-2.ensures in
    subst (λ (e : Expr). IsCount c.double.result (reasons.cutting c.args.most (tree_of e))) (sym c.in-Binary.is)
    (of_double c.args.most _ c.double.result _ _ left right c.in-Binary.op own (ap (λ (e : Expr). tree_of e) c.deref-in-Binary-3.ensures) (ap (λ (e : Expr). tree_of e) c.deref-in-Binary-4.ensures) have)

pub returns-in-Select : goal.returns-in-Select
returns-in-Select t c =
    let have = c.triple.ensures _ _ c.cutting-in-Select-3.ensures (c.double-values.ensures _ _ c.cutting-in-Select.ensures c.cutting-in-Select-2.ensures) in
    subst (λ (e : Expr). IsCount c.triple.result (reasons.cutting c.args.most (tree_of e))) (sym c.in-Select.is)
    (of_triple c.args.most _ _ c.triple.result _ _ _ _ _ _ c.select_levels-own.ensures.value c.select_levels-own.ensures.value (ap (λ (e : Expr). tree_of e) c.deref-in-Select-3.ensures) (ap (λ (e : Expr). tree_of e) c.deref-in-Select.ensures) (ap (λ (e : Expr). tree_of e) c.deref-in-Select-2.ensures) have)
