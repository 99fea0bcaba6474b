-- How many levels each operator of the language counts where bodies are cut, whatever its operands are.
use Rattle.std.specs.Prelude.{ℕ, Bool, if◌then◌else◌}
use Rattle.std.specs.Int.{is_power_of_two}
use Rattle.dk_base.specs.declared.operator.Unary.{Unary}
use Rattle.dk_base.specs.declared.operator.Unary.TheVariants.{Negate, Not, Abs}
use Rattle.dk_base.specs.declared.operator.Binary.{Binary}
use Rattle.dk_base.specs.declared.operator.Binary.TheVariants.{Add, Subtract, Multiply, Less, LessOrEqual, Greater, GreaterOrEqual, Equal, NotEqual, And, Or, Xor, Min, Max}
use Rattle.dk_base.specs.declared.operator.Scaling.{Scaling}
use Rattle.dk_base.specs.declared.operator.Scaling.TheVariants.{Divide, ShiftLeft, ShiftRight}
use Rattle.dk_base.specs.declared.operator.Conversion.{Conversion}
use Rattle.dk_base.specs.declared.operator.Conversion.TheVariants.{Cast, Saturate}

-- an absolute value is a negation and a choice
abbrev pub unary_levels : Unary → ℕ
unary_levels Negate = 1
unary_levels Not = 1
unary_levels Abs = 2

-- A product by a power of two that the program writes is a shift of wires. A least or greatest value is a comparison and a choice.
abbrev pub binary_levels : Binary → (has_power : Bool) → ℕ
binary_levels Add has_power = 1
binary_levels Subtract has_power = 1
binary_levels Multiply has_power = if has_power then 0 else 1
binary_levels Less has_power = 1
binary_levels LessOrEqual has_power = 1
binary_levels Greater has_power = 1
binary_levels GreaterOrEqual has_power = 1
binary_levels Equal has_power = 1
binary_levels NotEqual has_power = 1
binary_levels And has_power = 1
binary_levels Or has_power = 1
binary_levels Xor has_power = 1
binary_levels Min has_power = 2
binary_levels Max has_power = 2

-- Each shift is one of wires, and so is a division of an unsigned number by a power of two. That of a signed number has one sum, and counts the same.
abbrev pub scaling_levels : Scaling → (by : ℕ) → ℕ
scaling_levels Divide by = if is_power_of_two by then 0 else 2
scaling_levels ShiftLeft by = 0
scaling_levels ShiftRight by = 0

-- a cast takes bits away or repeats one; a saturation compares
abbrev pub conversion_levels : Conversion → ℕ
conversion_levels Cast = 0
conversion_levels Saturate = 1

-- a choice between two values
abbrev pub select_levels : ℕ
select_levels = 1
