-- The operators of the language: the types and the values of what they give.
use Rattle.std.specs.Prelude.{ℕ, zero, suc, ◌^◌, nat_eq, nat_le, not, ◌&&◌, ◌||◌, Bool, true, false, ℤ, pos, negsuc, ◌+ℤ◌, ◌-ℤ◌, ◌*ℤ◌, int_lt, int_div, unsigned_abs, bit_and, bit_or, bit_xor, Option, Some, None, if◌then◌else◌}
use Rattle.std.specs.Int.{int_min, int_max, int_div_euclid}
use Rattle.std.specs.Ordering.{int_eq}
use Rattle.dk_base.specs.declared.TheConstants.{MAX_WIDTH, MAX_SHIFT}
use Rattle.dk_base.specs.declared.ty.Ty.{Ty}
use Rattle.dk_base.specs.declared.ty.Ty.TheVariants.{Unsigned}
use Rattle.dk_base.specs.declared.operator.Unary.{Unary}
use Rattle.dk_base.specs.declared.operator.Unary.TheVariants.{Negate, Not, Abs}
use Rattle.dk_base.specs.declared.operator.Binary.{Binary}
use Rattle.dk_base.specs.declared.operator.Binary.TheVariants.{Add, Subtract, Multiply, Less, LessOrEqual, Greater, GreaterOrEqual, Equal, NotEqual, And, Or, Xor, Min, Max}
use Rattle.dk_base.specs.declared.operator.Scaling.{Scaling}
use Rattle.dk_base.specs.declared.operator.Scaling.TheVariants.{Divide, ShiftLeft, ShiftRight}
use Rattle.dk_base.specs.declared.operator.Conversion.{Conversion}
use Rattle.dk_base.specs.declared.operator.Conversion.TheVariants.{Cast, Saturate}
use Rattle.dk_base.specs.Types.{width_of, is_signed, is_bit, common_type, sum_type, difference_type, product_type, negation_type, magnitude_type, shifted_type}
use Rattle.dk_base.specs.Numbers.{bit_count, wrap, saturate}

-- the type, where it is at most 64 bits wide
abbrev pub limited : Ty → Option Ty
limited t = if nat_le (width_of t) MAX_WIDTH then Some t else None

-- a literal has the least unsigned type that holds it
abbrev pub literal_type : ℕ → Ty
literal_type v = Unsigned (bit_count v)

-- one operand
abbrev pub unary_type : Unary → Ty → Option Ty
unary_type Negate a = limited (negation_type a)
unary_type Not a = if is_bit a then Some a else None
unary_type Abs a = Some (magnitude_type a)

abbrev pub unary_value : Unary → ℤ → ℤ
unary_value Negate v = pos 0 -ℤ v
unary_value Not v = pos 1 -ℤ v
unary_value Abs v = pos (unsigned_abs v)

-- two operands
abbrev pub is_bitwise : Binary → Bool
is_bitwise Add = false
is_bitwise Subtract = false
is_bitwise Multiply = false
is_bitwise Less = false
is_bitwise LessOrEqual = false
is_bitwise Greater = false
is_bitwise GreaterOrEqual = false
is_bitwise Equal = false
is_bitwise NotEqual = false
is_bitwise And = true
is_bitwise Or = true
is_bitwise Xor = true
is_bitwise Min = false
is_bitwise Max = false

-- what works bit by bit takes unsigned operands only
abbrev pub are_operands : Binary → Ty → Ty → Bool
are_operands op a b = not (is_bitwise op && (is_signed a || is_signed b))

-- the type of what the operator gives, of any width
abbrev pub binary_result : Binary → Ty → Ty → Ty
binary_result Add a b = sum_type a b
binary_result Subtract a b = difference_type a b
binary_result Multiply a b = product_type a b
binary_result Less a b = Unsigned 1
binary_result LessOrEqual a b = Unsigned 1
binary_result Greater a b = Unsigned 1
binary_result GreaterOrEqual a b = Unsigned 1
binary_result Equal a b = Unsigned 1
binary_result NotEqual a b = Unsigned 1
binary_result And a b = common_type a b
binary_result Or a b = common_type a b
binary_result Xor a b = common_type a b
binary_result Min a b = common_type a b
binary_result Max a b = common_type a b

-- the type of what the operator gives: the common type of the operands and the result's have at most 64 bits
abbrev pub binary_type : Binary → Ty → Ty → Option Ty
binary_type op a b =
    if are_operands op a b && nat_le (width_of (common_type a b)) MAX_WIDTH then limited (binary_result op a b) else None

-- 1 where it holds, else 0
abbrev pub truth : Bool → ℤ
truth t = if t then pos 1 else pos 0

abbrev pub binary_value : Binary → ℤ → ℤ → ℤ
binary_value Add v u = v +ℤ u
binary_value Subtract v u = v -ℤ u
binary_value Multiply v u = v *ℤ u
binary_value Less v u = truth (int_lt v u)
binary_value LessOrEqual v u = truth (not (int_lt u v))
binary_value Greater v u = truth (int_lt u v)
binary_value GreaterOrEqual v u = truth (not (int_lt v u))
binary_value Equal v u = truth (int_eq v u)
binary_value NotEqual v u = truth (not (int_eq v u))
binary_value And v u = pos (bit_and (unsigned_abs v) (unsigned_abs u))
binary_value Or v u = pos (bit_or (unsigned_abs v) (unsigned_abs u))
binary_value Xor v u = pos (bit_xor (unsigned_abs v) (unsigned_abs u))
binary_value Min v u = int_min v u
binary_value Max v u = int_max v u

-- an operand and a number that the program writes: a divisor is above 0, and a shift is by at most 63 bits
abbrev pub scaling_type : Scaling → Ty → ℕ → Option Ty
scaling_type Divide a k = if nat_eq k 0 then None else Some a
scaling_type ShiftLeft a k = if nat_le k MAX_SHIFT then limited (shifted_type a k) else None
scaling_type ShiftRight a k = if nat_le k MAX_SHIFT then Some a else None

-- a quotient rounded toward zero, a product with 2 ^ k, and a quotient by 2 ^ k rounded down
abbrev pub scaling_value : Scaling → ℤ → ℕ → ℤ
scaling_value Divide v k = int_div v (pos k)
scaling_value ShiftLeft v k = v *ℤ pos (2 ^ k)
scaling_value ShiftRight v k = int_div_euclid v (pos (2 ^ k))

-- a value brought into the range of a type that the program writes; the type of what it gives is that type
abbrev pub conversion_value : Conversion → Ty → ℤ → ℤ
conversion_value Cast t v = wrap t v
conversion_value Saturate t v = saturate t v

-- a choice by one bit
abbrev pub select_type : Ty → Ty → Ty → Option Ty
select_type c a b = if is_bit c then limited (common_type a b) else None

-- a where the condition is 1, else b
abbrev pub select_value : ℤ → ℤ → ℤ → ℤ
select_value (pos (suc n)) a b = a
select_value (pos zero) a b = b
select_value (negsuc n) a b = b
