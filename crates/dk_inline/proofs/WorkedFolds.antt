-- Folds that are worked out by hand.
use Rattle.std.proofs.Common.{ℕ, ◌<◌, ◌≤◌, ◌^◌, pos, neg_ℤ, refl, sym, arith}
use Rattle.std.proofs.lemmas.Int.{ints}
use Rattle.dk_base.specs.declared.ty.Ty.TheVariants.{Unsigned, Signed}
use Rattle.dk_base.specs.declared.operator.Unary.TheVariants.{Negate}
use Rattle.dk_base.specs.declared.operator.Binary.TheVariants.{Add, Multiply}
use Rattle.dk_base.specs.declared.operator.Conversion.TheVariants.{Cast, Saturate}
use Rattle.dk_base.specs.declared.operator.Scaling.TheVariants.{Divide, ShiftLeft, ShiftRight}
use Rattle.dk_base.specs.Types.{IsType}
use Rattle.dk_base.proofs.Wrapping.{wrapped_only}
use Rattle.pointwise_ir.specs.declared.expr.Edge.TheVariants.{Zero}
use Rattle.pointwise_ir.specs.Trees.{constant, shifted, unary, binary, select, convert, scale}
use Rattle.dk_inline.specs.Folded.{IsWorth, IsFoldOf, to_constant, in_read, in_shifted, in_binary, in_select}
use Rattle.dk_inline.specs.Worked.{number, pixel}

worth : (n bits : ℕ) → 1 ≤ bits → bits ≤ 64 → n < 2 ^ bits → IsWorth (number n bits) (pos n) (Unsigned bits)
worth n bits some most within = record {
  closed = tt;
  typed = (record { some = some; most = most }, record { least = omega (arith, ints); greatest = omega (arith, ints, within) }, refl);
  value = λ size known x y. refl;
}

two : IsWorth (number 2 2) (pos 2) (Unsigned 2)
two = worth 2 2 (omega arith) (omega arith) (omega arith)

three : IsWorth (number 3 2) (pos 3) (Unsigned 2)
three = worth 3 2 (omega arith) (omega arith) (omega arith)

seven : IsWorth (number 7 3) (pos 7) (Unsigned 3)
seven = worth 7 3 (omega arith) (omega arith) (omega arith)

zero : IsWorth (number 0 1) (pos 0) (Unsigned 1)
zero = worth 0 1 (omega arith) (omega arith) (omega arith)

one : IsWorth (number 1 1) (pos 1) (Unsigned 1)
one = worth 1 1 (omega arith) (omega arith) (omega arith)

two_bits : IsType (Unsigned 2)
two_bits = record { some = omega arith; most = omega arith }

signed_bits : IsType (Signed 2)
signed_bits = record { some = omega arith; most = omega arith }

five : IsFoldOf (binary Add (number 2 2) (number 3 2)) (number 5 3)
five = to_constant (record { closed = (tt, tt); typed = (Unsigned 2, Unsigned 2, two.typed, three.typed, refl); value = λ size known x y. refl })

pub sum : IsFoldOf (binary Multiply pixel (binary Add (number 2 2) (number 3 2))) (binary Multiply pixel (number 5 3))
sum = in_binary (λ closed. closed.0) in_read five

pub product : IsFoldOf (binary Multiply pixel (number 0 1)) (binary Multiply pixel (number 0 1))
product = in_binary (λ closed. closed.0) in_read (to_constant zero)

pub moved : IsFoldOf (shifted Zero (pos 0) (neg_ℤ (pos 1)) (binary Add (number 2 2) (number 3 2))) (shifted Zero (pos 0) (neg_ℤ (pos 1)) (number 5 3))
moved = in_shifted five

pub first : IsFoldOf (select (number 1 1) (number 2 2) (number 3 2)) (number 2 2)
first = to_constant (record { closed = (tt, tt, tt); typed = (Unsigned 1, Unsigned 2, Unsigned 2, one.typed, two.typed, three.typed, refl); value = λ size known x y. refl })

pub second : IsFoldOf (select (number 0 1) (number 7 3) (number 3 2)) (number 3 3)
second = to_constant (record { closed = (tt, tt, tt); typed = (Unsigned 1, Unsigned 3, Unsigned 2, zero.typed, seven.typed, three.typed, refl); value = λ size known x y. refl })

pub choice : IsFoldOf (select (number 0 1) (number 3 2) pixel) (select (number 0 1) (number 3 2) pixel)
choice = in_select (λ closed. closed.2) (to_constant zero) (to_constant three) in_read

pub saturated : IsFoldOf (convert Saturate (number 7 3) (Unsigned 2)) (number 3 2)
saturated = to_constant (record { closed = tt; typed = (two_bits, refl, Unsigned 3, seven.typed); value = λ size known x y. refl })

pub cast : IsFoldOf (convert Cast (number 6 3) (Signed 2)) (constant (neg_ℤ (pos 2)) (Signed 2))
cast =
    let six : IsWorth (number 6 3) (pos 6) (Unsigned 3) = worth 6 3 (omega arith) (omega arith) (omega arith) in
    let is = wrapped_only (Signed 2) (pos 6) (neg_ℤ (pos 2)) signed_bits (record { inside = record { least = omega (arith, ints); greatest = omega (arith, ints) }; equal = (pos 2, refl) }) in
    to_constant (record { closed = tt; typed = (signed_bits, refl, Unsigned 3, six.typed); value = λ size known x y. sym is })

pub divided : IsFoldOf (scale Divide (number 7 3) 2) (number 3 3)
divided = to_constant (record { closed = tt; typed = (Unsigned 3, seven.typed, refl); value = λ size known x y. refl })

pub left : IsFoldOf (scale ShiftLeft (number 7 3) 4) (number 112 7)
left = to_constant (record { closed = tt; typed = (Unsigned 3, seven.typed, refl); value = λ size known x y. refl })

pub right : IsFoldOf (scale ShiftRight (unary Negate (number 7 3)) 1) (constant (neg_ℤ (pos 4)) (Signed 4))
right = to_constant (record { closed = tt; typed = (Signed 4, (Unsigned 3, seven.typed, refl), refl); value = λ size known x y. refl })
