use Rattle.std.proofs.Common.{ap, sym, subst}
use Rattle.std.proofs.lemmas.Result.{err_from_is_err_and}
use Rattle.dk_parser.specs.declared.tree.Node.{Node}
use Rattle.dk_parser.specs.Tree.{tree_at, tree_of}
use Rattle.dk_types.specs.Found.{Judged, IsTypedAs}
use Rattle.dk_types.proofs.Rules as R
use Rattle.dk_types.proofs.expression.+expression.Goals as goal

pub returns-in_err-operand-in-Unary : goal.returns-in_err-operand-in-Unary
returns-in_err-operand-in-Unary t c =
    let p = err_from_is_err_and c.from_residual.result c.from_residual.ensures.1 in
    let P : Node → Type 0 = λ n. Judged c.args.scope.now (tree_at c.args.e.now.span n) c.from_residual.result in
    subst P (sym c.in-Unary.is) (rw (p.1, p.2) (R.stops_unary c.args.scope.now c.args.e.now.span _ c.in-Unary.operator c.deref.result.now _ (ap tree_of c.deref.ensures) c.in_err-operand-in-Unary.ensures))

pub returns-in_err-left-in-Binary : goal.returns-in_err-left-in-Binary
returns-in_err-left-in-Binary t c =
    let p = err_from_is_err_and c.from_residual-in_err-left-in-Binary.result c.from_residual-in_err-left-in-Binary.ensures.1 in
    let P : Node → Type 0 = λ n. Judged c.args.scope.now (tree_at c.args.e.now.span n) c.from_residual-in_err-left-in-Binary.result in
    subst P (sym c.in-Binary.is) (rw (p.1, p.2) (R.stops_left c.args.scope.now c.args.e.now.span _ c.in-Binary.operator c.deref-in-Binary.result.now _ _ (ap tree_of c.deref-in-Binary.ensures) c.in_err-left-in-Binary.ensures))

pub returns-in_err-right-in-Binary : goal.returns-in_err-right-in-Binary
returns-in_err-right-in-Binary t c =
    let p = err_from_is_err_and c.from_residual-in_err-right-in-Binary.result c.from_residual-in_err-right-in-Binary.ensures.1 in
    let P : Node → Type 0 = λ n. Judged c.args.scope.now (tree_at c.args.e.now.span n) c.from_residual-in_err-right-in-Binary.result in
    subst P (sym c.in-Binary.is) (rw (p.1, p.2) (R.stops_right c.args.scope.now c.args.e.now.span _ c.in-Binary.operator c.deref-in-Binary.result.now c.deref-in-Binary-2.result.now _ _ _ (ap tree_of c.deref-in-Binary.ensures) (ap tree_of c.deref-in-Binary-2.ensures) c.in_ok-left-in-Binary.ensures.has c.in_err-right-in-Binary.ensures))

pub returns-in_err-operand-in-Scale : goal.returns-in_err-operand-in-Scale
returns-in_err-operand-in-Scale t c =
    let p = err_from_is_err_and c.from_residual-in_err-operand-in-Scale.result c.from_residual-in_err-operand-in-Scale.ensures.1 in
    let P : Node → Type 0 = λ n. Judged c.args.scope.now (tree_at c.args.e.now.span n) c.from_residual-in_err-operand-in-Scale.result in
    subst P (sym c.in-Scale.is) (rw (p.1, p.2) (R.stops_scale c.args.scope.now c.args.e.now.span _ c.in-Scale.operator _ c.deref-in-Scale.result.now _ (ap tree_of c.deref-in-Scale.ensures) c.in_err-operand-in-Scale.ensures))

pub returns-in_err-operand-in-Cast : goal.returns-in_err-operand-in-Cast
returns-in_err-operand-in-Cast t c =
    let p = err_from_is_err_and c.from_residual-in_err-operand-in-Cast.result c.from_residual-in_err-operand-in-Cast.ensures.1 in
    let P : Node → Type 0 = λ n. Judged c.args.scope.now (tree_at c.args.e.now.span n) c.from_residual-in_err-operand-in-Cast.result in
    subst P (sym c.in-Cast.is) (rw (p.1, p.2) (R.stops_cast c.args.scope.now c.args.e.now.span _ _ c.deref-in-Cast.result.now _ (ap tree_of c.deref-in-Cast.ensures) c.in_err-operand-in-Cast.ensures))

pub returns-in_err-operand-in-Sat : goal.returns-in_err-operand-in-Sat
returns-in_err-operand-in-Sat t c =
    let p = err_from_is_err_and c.from_residual-in_err-operand-in-Sat.result c.from_residual-in_err-operand-in-Sat.ensures.1 in
    let P : Node → Type 0 = λ n. Judged c.args.scope.now (tree_at c.args.e.now.span n) c.from_residual-in_err-operand-in-Sat.result in
    subst P (sym c.in-Sat.is) (rw (p.1, p.2) (R.stops_saturate c.args.scope.now c.args.e.now.span _ _ c.deref-in-Sat.result.now _ (ap tree_of c.deref-in-Sat.ensures) c.in_err-operand-in-Sat.ensures))

pub returns-in_err-condition-in-Select : goal.returns-in_err-condition-in-Select
returns-in_err-condition-in-Select t c =
    let p = err_from_is_err_and c.from_residual-in_err-condition-in-Select.result c.from_residual-in_err-condition-in-Select.ensures.1 in
    let P : Node → Type 0 = λ n. Judged c.args.scope.now (tree_at c.args.e.now.span n) c.from_residual-in_err-condition-in-Select.result in
    subst P (sym c.in-Select.is) (rw (p.1, p.2) (R.stops_condition c.args.scope.now c.args.e.now.span _ c.deref-in-Select.result.now _ _ _ (ap tree_of c.deref-in-Select.ensures) c.in_err-condition-in-Select.ensures))

pub returns-in_err-left-in-Select : goal.returns-in_err-left-in-Select
returns-in_err-left-in-Select t c =
    let p = err_from_is_err_and c.from_residual-in_err-left-in-Select.result c.from_residual-in_err-left-in-Select.ensures.1 in
    let P : Node → Type 0 = λ n. Judged c.args.scope.now (tree_at c.args.e.now.span n) c.from_residual-in_err-left-in-Select.result in
    subst P (sym c.in-Select.is) (rw (p.1, p.2) (R.stops_first c.args.scope.now c.args.e.now.span _ c.deref-in-Select.result.now c.deref-in-Select-2.result.now _ _ _ _ (ap tree_of c.deref-in-Select.ensures) (ap tree_of c.deref-in-Select-2.ensures) c.in_ok-condition-in-Select.ensures.has c.in_err-left-in-Select.ensures))

pub returns-in_err-right-in-Select : goal.returns-in_err-right-in-Select
returns-in_err-right-in-Select t c =
    let p = err_from_is_err_and c.from_residual-in_err-right-in-Select.result c.from_residual-in_err-right-in-Select.ensures.1 in
    let P : Node → Type 0 = λ n. Judged c.args.scope.now (tree_at c.args.e.now.span n) c.from_residual-in_err-right-in-Select.result in
    subst P (sym c.in-Select.is) (rw (p.1, p.2) (R.stops_second c.args.scope.now c.args.e.now.span _ c.deref-in-Select.result.now c.deref-in-Select-2.result.now c.deref-in-Select-3.result.now _ _ _ _ _ (ap tree_of c.deref-in-Select.ensures) (ap tree_of c.deref-in-Select-2.ensures) (ap tree_of c.deref-in-Select-3.ensures) c.in_ok-condition-in-Select.ensures.has c.in_ok-left-in-Select.ensures.has c.in_err-right-in-Select.ensures))

pub returns-in-Number : goal.returns-in-Number
returns-in-Number t c =
    let P : Node → Type 0 = λ n. IsTypedAs c.args.scope.now (tree_at c.args.e.now.span n) c.number.result in
    subst P (sym c.in-Number.is) (c.number.ensures c.args.scope.now)
