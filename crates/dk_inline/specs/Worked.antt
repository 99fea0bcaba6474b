-- Words of the worked folds.
use Rattle.std.specs.Prelude.{ℕ, pos}
use Rattle.dk_base.specs.declared.ty.Ty.TheVariants.{Unsigned}
use Rattle.pointwise_ir.specs.declared.expr.Edge.TheVariants.{Zero}
use Rattle.pointwise_ir.specs.Trees.{Tree, constant, read}

-- the number as a constant of the unsigned type of this many bits
abbrev pub number : (n bits : ℕ) → Tree
number n bits = constant (pos n) (Unsigned bits)

-- a pixel of the first input
abbrev pub pixel : Tree
pixel = read Zero 0 (pos 1) (pos 0)
