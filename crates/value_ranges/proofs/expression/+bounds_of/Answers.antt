use Rattle.pointwise_ir.specs.Trees.{tree_of}
use Rattle.value_ranges.proofs.Ranged.{shifted_whole, unary_whole, binary_whole, select_whole, convert_whole, scale_whole, shifted_parts, unary_parts, binary_parts, select_parts, convert_parts, scale_parts}
use Rattle.value_ranges.proofs.expression.+bounds_of.Goals as goal

pub returns-in_ok-body-in-Shifted-clause-parts : goal.returns-in_ok-body-in-Shifted-clause-parts
returns-in_ok-body-in-Shifted-clause-parts t c =
    let ranges = c.args.ranges.now in
    let a = tree_of c.in-Shifted.body.value in
    let body = rw c.deref.ensures at c.in_ok-body-in-Shifted.ensures.whole in
    let parts = rw c.deref.ensures at c.in_ok-body-in-Shifted.ensures.parts in
    let whole = shifted_whole ranges c.in-Shifted.edge c.in-Shifted.field-1 c.in-Shifted.field-2 a c.in_ok-body-in-Shifted.body.whole c.edged_range-in-Shifted.result body c.edged_range-in-Shifted.ensures.edged in
    rw c.in-Shifted.is
    (shifted_parts ranges c.in-Shifted.edge c.in-Shifted.field-1 c.in-Shifted.field-2 a c.edged_range-in-Shifted.result c.in_ok-body-in-Shifted.body.parts c.with_parts-in-Shifted.result.parts whole c.with_parts-in-Shifted.ensures.own parts c.with_parts-in-Shifted.ensures.parts)

pub returns-in_ok-whole-in-Unary-clause-parts : goal.returns-in_ok-whole-in-Unary-clause-parts
returns-in_ok-whole-in-Unary-clause-parts t c =
    let ranges = c.args.ranges.now in
    let a = tree_of c.in-Unary.body.value in
    let body = rw c.deref-in-Unary.ensures at c.in_ok-operand-in-Unary.ensures.whole in
    let parts = rw c.deref-in-Unary.ensures at c.in_ok-operand-in-Unary.ensures.parts in
    let whole = unary_whole ranges c.in-Unary.op a c.in_ok-operand-in-Unary.operand.whole c.in_ok-whole-in-Unary.whole c.in_ok-whole-in-Unary.ensures.within body in
    rw c.in-Unary.is
    (unary_parts ranges c.in-Unary.op a c.in_ok-whole-in-Unary.whole c.in_ok-operand-in-Unary.operand.parts c.with_parts-in-Unary.result.parts whole c.with_parts-in-Unary.ensures.own parts c.with_parts-in-Unary.ensures.parts)

pub returns-in_ok-whole-in-Binary-clause-whole : goal.returns-in_ok-whole-in-Binary-clause-whole
returns-in_ok-whole-in-Binary-clause-whole t c =
    let left = rw c.deref-in-Binary.ensures at c.in_ok-left-in-Binary.ensures.whole in
    let right = rw c.deref-in-Binary-2.ensures at c.in_ok-right-in-Binary.ensures.whole in
    rw (c.in-Binary.is, c.with_parts-in-Binary.ensures.whole)
    (binary_whole c.args.ranges.now c.in-Binary.op (tree_of c.in-Binary.left.value) (tree_of c.in-Binary.right.value) c.in_ok-left-in-Binary.left.whole c.in_ok-right-in-Binary.right.whole c.in_ok-whole-in-Binary.whole c.in_ok-whole-in-Binary.ensures.within left right)

pub returns-in_ok-whole-in-Binary-clause-parts : goal.returns-in_ok-whole-in-Binary-clause-parts
returns-in_ok-whole-in-Binary-clause-parts t c =
    let ranges = c.args.ranges.now in
    let a = tree_of c.in-Binary.left.value in
    let b = tree_of c.in-Binary.right.value in
    let left = rw c.deref-in-Binary.ensures at c.in_ok-left-in-Binary.ensures.whole in
    let right = rw c.deref-in-Binary-2.ensures at c.in_ok-right-in-Binary.ensures.whole in
    let first = rw c.deref-in-Binary.ensures at c.in_ok-left-in-Binary.ensures.parts in
    let second = rw c.deref-in-Binary-2.ensures at c.in_ok-right-in-Binary.ensures.parts in
    let whole = binary_whole ranges c.in-Binary.op a b c.in_ok-left-in-Binary.left.whole c.in_ok-right-in-Binary.right.whole c.in_ok-whole-in-Binary.whole c.in_ok-whole-in-Binary.ensures.within left right in
    rw c.in-Binary.is
    (binary_parts ranges c.in-Binary.op a b c.in_ok-whole-in-Binary.whole c.in_ok-left-in-Binary.left.parts c.in_ok-right-in-Binary.right.parts c.join.result c.with_parts-in-Binary.result.parts whole c.with_parts-in-Binary.ensures.own first second c.join.ensures.this c.join.ensures.other c.with_parts-in-Binary.ensures.parts)

pub returns-in_ok-right-in-Select-clause-whole : goal.returns-in_ok-right-in-Select-clause-whole
returns-in_ok-right-in-Select-clause-whole t c =
    let left = rw c.deref-in-Select-2.ensures at c.in_ok-left-in-Select.ensures.whole in
    let right = rw c.deref-in-Select-3.ensures at c.in_ok-right-in-Select.ensures.whole in
    rw (c.in-Select.is, c.with_parts-in-Select.ensures.whole)
    (select_whole c.args.ranges.now (tree_of c.in-Select.condition.value) (tree_of c.in-Select.left.value) (tree_of c.in-Select.right.value) c.in_ok-left-in-Select.left.whole c.in_ok-right-in-Select.right.whole c.join-in-Select-2.result c.join-in-Select-2.ensures.this c.join-in-Select-2.ensures.other left right)

pub returns-in_ok-right-in-Select-clause-parts : goal.returns-in_ok-right-in-Select-clause-parts
returns-in_ok-right-in-Select-clause-parts t c =
    let ranges = c.args.ranges.now in
    let o = tree_of c.in-Select.condition.value in
    let a = tree_of c.in-Select.left.value in
    let b = tree_of c.in-Select.right.value in
    let left = rw c.deref-in-Select-2.ensures at c.in_ok-left-in-Select.ensures.whole in
    let right = rw c.deref-in-Select-3.ensures at c.in_ok-right-in-Select.ensures.whole in
    let first = rw c.deref-in-Select.ensures at c.in_ok-condition-in-Select.ensures.parts in
    let second = rw c.deref-in-Select-2.ensures at c.in_ok-left-in-Select.ensures.parts in
    let third = rw c.deref-in-Select-3.ensures at c.in_ok-right-in-Select.ensures.parts in
    let whole = select_whole ranges o a b c.in_ok-left-in-Select.left.whole c.in_ok-right-in-Select.right.whole c.join-in-Select-2.result c.join-in-Select-2.ensures.this c.join-in-Select-2.ensures.other left right in
    rw c.in-Select.is
    (select_parts ranges o a b c.join-in-Select-2.result c.in_ok-condition-in-Select.condition.parts c.in_ok-left-in-Select.left.parts c.in_ok-right-in-Select.right.parts c.join-in-Select.result c.with_parts-in-Select.result.parts whole c.with_parts-in-Select.ensures.own first second third
    (λ v is. c.with_parts-in-Select.ensures.parts v (c.join-parts.ensures.this v is)) c.join-in-Select.ensures.this c.join-in-Select.ensures.other
    (λ v is. c.with_parts-in-Select.ensures.parts v (c.join-parts.ensures.other v is)))

pub returns-in_ok-whole-in-Convert-clause-parts : goal.returns-in_ok-whole-in-Convert-clause-parts
returns-in_ok-whole-in-Convert-clause-parts t c =
    let ranges = c.args.ranges.now in
    let a = tree_of c.in-Convert.body.value in
    let body = rw c.deref-in-Convert.ensures at c.in_ok-operand-in-Convert.ensures.whole in
    let parts = rw c.deref-in-Convert.ensures at c.in_ok-operand-in-Convert.ensures.parts in
    let whole = convert_whole ranges c.in-Convert.how a c.in-Convert.ty c.in_ok-operand-in-Convert.operand.whole c.in_ok-whole-in-Convert.whole c.in_ok-whole-in-Convert.ensures.within body in
    rw c.in-Convert.is
    (convert_parts ranges c.in-Convert.how a c.in-Convert.ty c.in_ok-whole-in-Convert.whole c.in_ok-operand-in-Convert.operand.parts c.with_parts-in-Convert.result.parts whole c.with_parts-in-Convert.ensures.own parts c.with_parts-in-Convert.ensures.parts)

pub returns-in_ok-whole-in-Scale-clause-parts : goal.returns-in_ok-whole-in-Scale-clause-parts
returns-in_ok-whole-in-Scale-clause-parts t c =
    let ranges = c.args.ranges.now in
    let a = tree_of c.in-Scale.body.value in
    let body = rw c.deref-in-Scale.ensures at c.in_ok-operand-in-Scale.ensures.whole in
    let parts = rw c.deref-in-Scale.ensures at c.in_ok-operand-in-Scale.ensures.parts in
    let whole = scale_whole ranges c.in-Scale.op a c.in-Scale.by c.in_ok-operand-in-Scale.operand.whole c.in_ok-whole-in-Scale.whole c.in_ok-whole-in-Scale.ensures.within body in
    rw c.in-Scale.is
    (scale_parts ranges c.in-Scale.op a c.in-Scale.by c.in_ok-whole-in-Scale.whole c.in_ok-operand-in-Scale.operand.parts c.with_parts-in-Scale.result.parts whole c.with_parts-in-Scale.ensures.own parts c.with_parts-in-Scale.ensures.parts)
