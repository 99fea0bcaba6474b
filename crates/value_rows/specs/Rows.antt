-- Rows of values: what a picture has along a row of the frame.
use Rattle.std.specs.Prelude.{◌≡◌, ℕ, ◌<◌, ℤ, pos, unsigned_abs, List, length, slice_index_or, if◌then◌else◌}
use Rattle.dk_base.specs.Frames.{Size, Picture, is_below, clamped}
use Rattle.dk_base.specs.Types.{IsIn}
use Rattle.dk_base.specs.Operators.{scaling_value}
use Rattle.dk_base.specs.declared.operator.Scaling.{Scaling}
use Rattle.dk_base.specs.declared.ty.Ty.{Ty}
use Rattle.dk_base.specs.declared.ty.Ty.TheVariants.{Signed}
use Rattle.pointwise_ir.specs.Operands.{TakesScaled}
use Rattle.pointwise_ir.specs.declared.expr.Edge.{Edge}
use Rattle.pointwise_ir.specs.declared.expr.Edge.TheVariants.{Zero, Clamp}

-- the value at a place, and 0 past the end
abbrev pub entry : List ℤ → ℕ → ℤ
entry row k = slice_index_or row k (pos 0)

-- the values of the picture along row y of the frame
pub record IsRow (size : Size) (picture : Picture) (y : ℤ) (row : List ℤ) : Type 0 where
  pub whole : length row ≡ size.width
  pub values : (x : ℕ) → x < size.width → entry row x ≡ picture (pos x) y

-- what is beside a row that ends with this value
abbrev pub end_of : Edge → ℤ → ℤ
end_of Zero v = pos 0
end_of Clamp v = v

-- the value of a row at a column that may lie outside
abbrev pub beside : Edge → List ℤ → ℤ → ℤ
beside Zero row x = if is_below x (length row) then entry row (unsigned_abs x) else pos 0
beside Clamp row x = entry row (unsigned_abs (clamped (length row) x))

-- a value of 64 bits
abbrev pub IsNarrow : ℤ → Type 0
IsNarrow v = IsIn (Signed 64) v

-- Each of the first values of a row can be divided or shifted so, and what it then is has the type.
pub record CanScale (op : Scaling) (by : ℕ) (t : Ty) (count : ℕ) (row : List ℤ) : Type 0 where
  -- the operator takes it
  pub takes : (k : ℕ) → k < count → TakesScaled op (entry row k) by
  -- its new value is of the type
  pub fits : (k : ℕ) → k < count → IsIn t (scaling_value op (entry row k) by)
