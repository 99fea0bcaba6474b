use Rattle.std.proofs.Common.{refl, rules}
use Rattle.std.proofs.lemmas.Int.{to_z-of_z}
use Rattle.std.specs.Prelude.{FitsSigned}
use mir.Syntax.{w128}
use Rattle.pointwise_ir.proofs.Operated.{scaled_fits, fits_code}
use Rattle.pointwise_ir.proofs.values.scaling_value.Goals as goal

pub overflow_mul-result : goal.overflow_mul-result
overflow_mul-result c =
    let small = rw c.in-ShiftLeft.is at (scaled_fits c.args.op c.args.value c.args.by c.requires) in
    let power : FitsSigned w128 c.power.result = search rules in
    rw (to_z-of_z w128 c.args.value c.ranges.value, to_z-of_z w128 c.power.result power, c.power.ensures) (fits_code _ small)

pub returns-in-ShiftLeft : goal.returns-in-ShiftLeft
returns-in-ShiftLeft c =
    let power : FitsSigned w128 c.power.result = search rules in
    rw (to_z-of_z w128 _ (overflow_mul-result c), to_z-of_z w128 c.args.value c.ranges.value, to_z-of_z w128 c.power.result power, c.power.ensures, c.in-ShiftLeft.is) refl
