-- How many operators the circuit of an expression has, at most, on a path from a leaf: the logic depth that each operator of the language adds, whatever the types of its operands are.
use Rattle.std.specs.Prelude.{ℕ, ◌+◌, ◌^◌, ◌==◌, max, Bool, if◌then◌else◌}
use Rattle.std.specs.Int.{trailing_zeros, w64}
use Rattle.dk_base.specs.declared.operator.Unary.{Unary}
use Rattle.dk_base.specs.declared.operator.Unary.TheVariants.{Negate, Not, Abs}
use Rattle.dk_base.specs.declared.operator.Binary.{Binary}
use Rattle.dk_base.specs.declared.operator.Binary.TheVariants.{Add, Subtract, Multiply, Less, LessOrEqual, Greater, GreaterOrEqual, Equal, NotEqual, And, Or, Xor, Min, Max}
use Rattle.dk_base.specs.declared.operator.Scaling.{Scaling}
use Rattle.dk_base.specs.declared.operator.Scaling.TheVariants.{Divide, ShiftLeft, ShiftRight}
use Rattle.dk_base.specs.declared.operator.Conversion.{Conversion}
use Rattle.dk_base.specs.declared.operator.Conversion.TheVariants.{Cast, Saturate}
use Rattle.pointwise_ir.specs.declared.expr.Edge.{Edge}
use Rattle.pointwise_ir.specs.declared.expr.Edge.TheVariants.{Zero, Clamp}
use Rattle.pointwise_ir.specs.Trees.{Tree, constant, read, shifted, unary, binary, select, convert, scale}

-- a number below 2 ^ 64 whose lowest 1 is its only one
abbrev pub is_power : ℕ → Bool
is_power n = 2 ^ trailing_zeros w64 n == n

-- an absolute value is a negation and a choice by the sign
abbrev pub unary_levels : Unary → ℕ
unary_levels Negate = 1
unary_levels Not = 1
unary_levels Abs = 2

-- An order of signed numbers is one of unsigned numbers, after a sum with half their range. "At most", "at least" and "not equal" complement another test. A least or greatest value is an order and a choice.
abbrev pub binary_levels : Binary → ℕ
binary_levels Add = 1
binary_levels Subtract = 1
binary_levels Multiply = 1
binary_levels Less = 2
binary_levels LessOrEqual = 3
binary_levels Greater = 2
binary_levels GreaterOrEqual = 3
binary_levels Equal = 1
binary_levels NotEqual = 2
binary_levels And = 1
binary_levels Or = 1
binary_levels Xor = 1
binary_levels Min = 3
binary_levels Max = 3

-- A quotient of a signed number by a power of two is a sum and a shift. By another number it is an absolute value, a division, and a negation and a choice by the sign.
abbrev pub quotient_levels : (by : ℕ) → ℕ
quotient_levels by = if is_power by then 1 else 5

abbrev pub scaling_levels : Scaling → (by : ℕ) → ℕ
scaling_levels Divide by = quotient_levels by
scaling_levels ShiftLeft by = 0
scaling_levels ShiftRight by = 0

-- a saturation is a test and a choice for each end of the range
abbrev pub conversion_levels : Conversion → ℕ
conversion_levels Cast = 0
conversion_levels Saturate = 4

-- a choice between two values
abbrev pub select_levels : ℕ
select_levels = 1

-- a shifted part is a choice between its value and 0, unless it is clamped
abbrev pub edge_levels : Edge → ℕ
edge_levels Zero = 1
edge_levels Clamp = 0

-- The most operators on a path from a leaf of the expression to its value.
abbrev pub logic_levels : Tree → ℕ
logic_levels (constant v t) = 0
logic_levels (read edge g dx dy) = 0
logic_levels (shifted edge dx dy a) = edge_levels edge + logic_levels a
logic_levels (unary op a) = unary_levels op + logic_levels a
logic_levels (binary op a b) = binary_levels op + max (logic_levels a) (logic_levels b)
logic_levels (select c a b) = select_levels + max (logic_levels c) (max (logic_levels a) (logic_levels b))
logic_levels (convert how a t) = conversion_levels how + logic_levels a
logic_levels (scale op a k) = scaling_levels op k + logic_levels a
