-- Words of the worked levels.
use Rattle.std.specs.Prelude.{ℕ, pos, negsuc}
use Rattle.dk_base.specs.declared.ty.Ty.TheVariants.{Unsigned}
use Rattle.pointwise_ir.specs.declared.expr.Edge.TheVariants.{Zero, Clamp}
use Rattle.pointwise_ir.specs.Trees.{Tree, constant, read}

-- the number as a constant
abbrev pub number : (n : ℕ) → Tree
number n = constant (pos n) (Unsigned 8)

-- pixels of the first input: the one to the left, and the same with a clamped edge
abbrev pub left : Tree
left = read Zero 0 (negsuc 0) (pos 0)

abbrev pub clamped_left : Tree
clamped_left = read Clamp 0 (negsuc 0) (pos 0)
