use Rattle.std.proofs.Common.{rules, pos}
use Rattle.std.specs.Prelude.{FitsSigned}
use Rattle.std.proofs.lemmas.Int.{to_z-of_z}
use mir.Syntax.{w128}
use Rattle.dk_base.specs.FrameSizes.{size_of}
use Rattle.pointwise_ir.specs.Trees.{tree_of}
use Rattle.pointwise_eval.proofs.Operands.{takes_one, takes_two, takes_scaled}
use Rattle.pointwise_eval.proofs.value.+value_at.Goals as goal

pub unary_value-requires : goal.unary_value-requires
unary_value-requires t c =
    let fits : FitsSigned w128 c.value_at-in-Unary.result = search rules in
    let is = rw c.deref-in-Unary.ensures at c.value_at-in-Unary.ensures in
    rw (to_z-of_z w128 c.value_at-in-Unary.result fits)
    (takes_one (size_of c.args.size) c.args.planes.now c.in-Unary.op (tree_of c.in-Unary.body.value) (rw c.in-Unary.is at c.requires.can) _ (pos c.args.at.x) (pos c.args.at.y) is)

pub binary_value-requires : goal.binary_value-requires
binary_value-requires t c =
    let fits : FitsSigned w128 c.value_at-left.result = search rules in
    let also : FitsSigned w128 c.value_at-right.result = search rules in
    let is = rw c.deref-in-Binary.ensures at c.value_at-left.ensures in
    let too = rw c.deref-in-Binary-2.ensures at c.value_at-right.ensures in
    rw (to_z-of_z w128 c.value_at-left.result fits, to_z-of_z w128 c.value_at-right.result also)
    (takes_two (size_of c.args.size) c.args.planes.now c.in-Binary.op (tree_of c.in-Binary.left.value) (tree_of c.in-Binary.right.value) (rw c.in-Binary.is at c.requires.can) _ _ (pos c.args.at.x) (pos c.args.at.y) is too)

pub scaling_value-requires : goal.scaling_value-requires
scaling_value-requires t c =
    let fits : FitsSigned w128 c.value_at-in-Scale.result = search rules in
    let is = rw c.deref-in-Scale.ensures at c.value_at-in-Scale.ensures in
    rw (to_z-of_z w128 c.value_at-in-Scale.result fits)
    (takes_scaled (size_of c.args.size) c.args.planes.now c.in-Scale.op (tree_of c.in-Scale.body.value) c.in-Scale.by (rw c.in-Scale.is at c.requires.can) _ (pos c.args.at.x) (pos c.args.at.y) is)
