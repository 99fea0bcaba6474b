use Rattle.std.proofs.Common.{refl}
use Rattle.std.proofs.lemmas.Int.{to_z-of_z}
use mir.Syntax.{w128}
use Rattle.pointwise_ir.proofs.Operated.{two_fit, fits_code}
use Rattle.pointwise_ir.proofs.values.binary_value.Goals as goal

pub overflow_mul-result : goal.overflow_mul-result
overflow_mul-result c =
    let small = rw c.in-Multiply.is at (two_fit c.args.op c.args.left c.args.right c.requires) in
    rw (to_z-of_z w128 c.args.left c.ranges.left, to_z-of_z w128 c.args.right c.ranges.right) (fits_code _ small)

pub overflow_cast-result-in-Or : goal.overflow_cast-result-in-Or
overflow_cast-result-in-Or c =
    let small = rw c.in-Or.is at (two_fit c.args.op c.args.left c.args.right c.requires) in
    rw (c.bits-in-Or.ensures, c.bits-in-Or-2.ensures, to_z-of_z w128 c.args.left c.ranges.left, to_z-of_z w128 c.args.right c.ranges.right) (fits_code _ small)

pub overflow_cast-result-in-Xor : goal.overflow_cast-result-in-Xor
overflow_cast-result-in-Xor c =
    let small = rw c.in-Xor.is at (two_fit c.args.op c.args.left c.args.right c.requires) in
    rw (c.bits-in-Xor.ensures, c.bits-in-Xor-2.ensures, to_z-of_z w128 c.args.left c.ranges.left, to_z-of_z w128 c.args.right c.ranges.right) (fits_code _ small)

pub returns-in-Multiply : goal.returns-in-Multiply
returns-in-Multiply c = rw (to_z-of_z w128 _ (overflow_mul-result c), to_z-of_z w128 c.args.left c.ranges.left, to_z-of_z w128 c.args.right c.ranges.right, c.in-Multiply.is) refl

pub returns-in-Or : goal.returns-in-Or
returns-in-Or c =
    let fits = overflow_cast-result-in-Or c in
    rw (to_z-of_z w128 _ fits, c.bits-in-Or.ensures, c.bits-in-Or-2.ensures, to_z-of_z w128 c.args.left c.ranges.left, to_z-of_z w128 c.args.right c.ranges.right, c.in-Or.is) refl

pub returns-in-Xor : goal.returns-in-Xor
returns-in-Xor c =
    let fits = overflow_cast-result-in-Xor c in
    rw (to_z-of_z w128 _ fits, c.bits-in-Xor.ensures, c.bits-in-Xor-2.ensures, to_z-of_z w128 c.args.left c.ranges.left, to_z-of_z w128 c.args.right c.ranges.right, c.in-Xor.is) refl
