-- The values of operators fit the numbers of the code.
use Rattle.std.proofs.Common.{ℕ, ◌-◌, ◌^◌, ◌≤◌, ℤ, unsigned_abs, arith}
use Rattle.std.proofs.Math.Pow.{pow_mono}
use Rattle.std.specs.Prelude.{FitsSigned}
use Rattle.std.proofs.lemmas.Int.{ints, fits_signed_from_abs}
use mir.Syntax.{w128}
use Rattle.dk_base.specs.declared.ty.Ty.{Ty}
use Rattle.dk_base.specs.declared.ty.Ty.TheVariants.{Unsigned, Signed}
use Rattle.dk_base.specs.declared.operator.Binary.{Binary}
use Rattle.dk_base.specs.declared.operator.Scaling.{Scaling}
use Rattle.dk_base.specs.Types.{IsType, IsIn}
use Rattle.dk_base.specs.Operators.{binary_value, scaling_value}
use Rattle.dk_base.proofs.Operations.{binary_in, binary_typed, scaling_in}
use Rattle.pointwise_ir.specs.Operands.{TakesTwo, TakesScaled}
use Rattle.pointwise_ir.proofs.Typed.{scaling_typed}

-- a number of a type is at most 2 ^ 64 in size
pub size_of_value : (t : Ty) (v : ℤ) → IsType t → IsIn t v → unsigned_abs v ≤ 2 ^ 64
size_of_value (Unsigned n) v ok is =
    let most = ok.most in
    let top : 2 ^ n ≤ 2 ^ 64 = pow_mono most in
    let l = is.least in let g = is.greatest in omega (arith, ints, l, g, top)
size_of_value (Signed n) v ok is =
    let most : n - 1 ≤ 64 = (let m = ok.most in omega (arith, m)) in
    let top : 2 ^ (n - 1) ≤ 2 ^ 64 = pow_mono most in
    let l = is.least in let g = is.greatest in omega (arith, ints, l, g, top)

pub two_fit : (op : Binary) (v u : ℤ) → TakesTwo op v u → unsigned_abs (binary_value op v u) ≤ 2 ^ 64
two_fit op v u takes =
    size_of_value takes.t _ (binary_typed op takes.a takes.b takes.t takes.left_typed takes.rule).typed
    (binary_in op takes.a takes.b takes.t v u takes.left_typed takes.right_typed takes.rule takes.left takes.right)

pub scaled_fits : (op : Scaling) (v : ℤ) (k : ℕ) → TakesScaled op v k → unsigned_abs (scaling_value op v k) ≤ 2 ^ 64
scaled_fits op v k takes =
    size_of_value takes.t _ (scaling_typed op takes.a takes.t k takes.typed takes.rule)
    (scaling_in op takes.a takes.t v k takes.typed takes.rule takes.value)

-- such a number fits the code's numbers
pub fits_code : (v : ℤ) → unsigned_abs v ≤ 2 ^ 64 → FitsSigned w128 v
fits_code v h = fits_signed_from_abs w128 v (omega (arith, h))
