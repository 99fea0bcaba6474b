-- Values of the operators at numbers, by computing.
use lib.Count
use Rattle.std.proofs.Common.{◌≡◌, pos, negsuc, Some, refl}
use Rattle.dk_base.specs.declared.ty.Ty.TheVariants.{Unsigned, Signed}
use Rattle.dk_base.specs.declared.operator.Unary.TheVariants.{Negate, Not, Abs}
use Rattle.dk_base.specs.declared.operator.Binary.TheVariants.{Subtract, Multiply, LessOrEqual, GreaterOrEqual, Equal, NotEqual, And, Or, Xor, Min, Max}
use Rattle.dk_base.specs.declared.operator.Scaling.TheVariants.{Divide, ShiftLeft, ShiftRight}
use Rattle.dk_base.specs.declared.operator.Conversion.TheVariants.{Cast, Saturate}
use Rattle.dk_base.specs.Numbers.{code, number}
use Rattle.dk_base.specs.Operators.{literal_type, unary_value, binary_value, scaling_value, scaling_type, conversion_value, select_value}

-- u8 200 as s8
cast : conversion_value Cast (Signed 8) (pos 200) ≡ negsuc 55
unfolding code number
cast = refl

-- s4 -7 / 2 and s4 -7 >> 1
quotient : scaling_value Divide (negsuc 6) 2 ≡ negsuc 2
quotient = refl

floor : scaling_value ShiftRight (negsuc 6) 1 ≡ negsuc 3
floor = refl

-- 5 << 3
shifted : scaling_value ShiftLeft (pos 5) 3 ≡ pos 40
shifted = refl

shifted_type : scaling_type ShiftLeft (literal_type 5) 3 ≡ Some (Unsigned 6)
unfolding lib.Count.count_leading_zeros
shifted_type = refl

-- the minus of u8 255, the turn of a bit, and the size of s8 -128
negation : unary_value Negate (pos 255) ≡ negsuc 254
negation = refl

turned : unary_value Not (pos 1) ≡ pos 0
turned = refl

size : unary_value Abs (negsuc 127) ≡ pos 128
size = refl

-- u8 3 - u8 10, s4 -8 * s4 -8, and min and max of u8 200 and s8 -1
difference : binary_value Subtract (pos 3) (pos 10) ≡ negsuc 6
difference = refl

product : binary_value Multiply (negsuc 7) (negsuc 7) ≡ pos 64
product = refl

lesser : binary_value Min (pos 200) (negsuc 0) ≡ negsuc 0
lesser = refl

greater : binary_value Max (pos 200) (negsuc 0) ≡ pos 200
greater = refl

-- comparisons of s8 -1 with u8 1 and with itself
at_most : binary_value LessOrEqual (negsuc 0) (pos 1) ≡ pos 1
at_most = refl

at_least : binary_value GreaterOrEqual (negsuc 0) (pos 1) ≡ pos 0
at_least = refl

equal : binary_value Equal (negsuc 0) (negsuc 0) ≡ pos 1
equal = refl

unequal : binary_value NotEqual (negsuc 0) (negsuc 0) ≡ pos 0
unequal = refl

-- 12 and 10 bit by bit
conjunction : binary_value And (pos 12) (pos 10) ≡ pos 8
conjunction = refl

disjunction : binary_value Or (pos 12) (pos 10) ≡ pos 14
disjunction = refl

parity : binary_value Xor (pos 12) (pos 10) ≡ pos 6
parity = refl

-- sat(u9 511, s8) and sat(s9 -200, s8)
saturated_high : conversion_value Saturate (Signed 8) (pos 511) ≡ pos 127
saturated_high = refl

saturated_low : conversion_value Saturate (Signed 8) (negsuc 199) ≡ negsuc 127
saturated_low = refl

-- a choice
chosen : select_value (pos 1) (pos 7) (pos 9) ≡ pos 7
chosen = refl

other : select_value (pos 0) (pos 7) (pos 9) ≡ pos 9
other = refl
