-- What the operators give is in the range of its type.
use Rattle.std.proofs.Common.{◌≡◌, ℕ, suc, zero, ◌+◌, ◌-◌, ◌^◌, ◌<◌, ◌≤◌, max, Bool, true, false, not, ◌&&◌, ◌||◌, nat_eq, nat_le, cond, ℤ, pos, negsuc, ◌-ℤ◌, int_lt, unsigned_abs, Option, Some, None, if◌then◌else◌, bit_and, bit_or, bit_xor, refl, sym, ◌∙◌, ap, subst, arith}
use Rattle.std.proofs.Math.Pow.{pow_mono}
use Rattle.std.proofs.lemmas.Int.{ints}
use Rattle.std.proofs.lemmas.Nat.{and_le_l, or_lt, xor_lt, pow_pos}
use Rattle.dk_base.specs.declared.ty.Ty.{Ty}
use Rattle.dk_base.specs.declared.ty.Ty.TheVariants.{Unsigned, Signed}
use Rattle.dk_base.specs.declared.operator.Unary.{Unary}
use Rattle.dk_base.specs.declared.operator.Unary.TheVariants.{Negate, Not, Abs}
use Rattle.dk_base.specs.declared.operator.Binary.{Binary}
use Rattle.dk_base.specs.declared.operator.Binary.TheVariants.{Add, Subtract, Multiply, Less, LessOrEqual, Greater, GreaterOrEqual, Equal, NotEqual, And, Or, Xor, Min, Max}
use Rattle.dk_base.specs.declared.operator.Scaling.{Scaling}
use Rattle.dk_base.specs.declared.operator.Scaling.TheVariants.{Divide, ShiftLeft, ShiftRight}
use Rattle.dk_base.specs.declared.operator.Conversion.{Conversion}
use Rattle.dk_base.specs.declared.operator.Conversion.TheVariants.{Cast, Saturate}
use Rattle.dk_base.specs.Types.{IsType, IsIn, IsWithin, width_of, above, is_signed, is_bit, common_type, magnitude_type, shifted_type, converts}
use Rattle.dk_base.specs.Operators.{limited, unary_type, unary_value, are_operands, binary_result, binary_type, binary_value, truth, scaling_type, scaling_value, conversion_value, select_type, select_value}
use Rattle.dk_base.proofs.Codes.{half, number_in}
use Rattle.dk_base.proofs.Congruence.{code_below}
use Rattle.dk_base.proofs.Ranges.{in_wider, common_left, common_right, common_some, sum_in, difference_in, product_in, negation_in, unsigned_within, signed_within, mixed_within}
use Rattle.dk_base.proofs.Compare.{saturate_in}
use Rattle.dk_base.proofs.Scale.{shifted_in}
use Rattle.dk_base.proofs.Signs.{quotient_le}

if_some : (b : Bool) (o : Option Ty) (t : Ty) → (if b then o else None) ≡ Some t → (b ≡ true) × (o ≡ Some t)
if_some true o t h = (refl, h)
if_some false o t h = absurd (let e : ⊥ = cc in e)

some_is : (s t : Ty) → Some s ≡ Some t → s ≡ t
some_is s t h = cc

both : (a b : Bool) → (a && b) ≡ true → (a ≡ true) × (b ≡ true)
both true b h = (refl, h)
both false b h = absurd (let e : ⊥ = cc in e)

at_most : (n m : ℕ) → nat_le n m ≡ true → n ≤ m
at_most n m h = grind (arith, h)

-- a type that is not too wide
limited_is : (s t : Ty) → limited s ≡ Some t → (s ≡ t) × (width_of s ≤ 64)
limited_is s t h =
    let p = if_some (nat_le (width_of s) 64) (Some s) t h in
    (some_is s t p.1, at_most (width_of s) 64 p.0)

typed : (s t : Ty) → 1 ≤ width_of s → limited s ≡ Some t → IsType t
typed s t some h =
    let p = limited_is s t h in
    let P : Ty → Type 0 = λ u. IsType u in
    subst P p.0 (record { some = some; most = p.1 })

moved : (s t : Ty) (v : ℤ) → s ≡ t → IsIn s v → IsIn t v
moved s t v e h = let P : Ty → Type 0 = λ u. IsIn u v in subst P e h

-- 0 and 1 are in the range of one bit
truth_in : (b : Bool) → IsIn (Unsigned 1) (truth b)
truth_in true = record { least = omega (arith, ints); greatest = omega (arith, ints) }
truth_in false = record { least = omega (arith, ints); greatest = omega (arith, ints) }

either_in : (t : Ty) (b : Bool) (v u : ℤ) → IsIn t v → IsIn t u → IsIn t (cond b v u)
either_in t true v u h k = h
either_in t false v u h k = k

-- bits of unsigned numbers
bits_in : (n m x y : ℕ) (F : ℕ → ℕ → ℕ) → ((k a b : ℕ) → a < 2 ^ k → b < 2 ^ k → F a b < 2 ^ k) → IsIn (Unsigned n) (pos x) → IsIn (Unsigned m) (pos y) → IsIn (Unsigned (max n m)) (pos (F x y))
bits_in n m x y F law h k =
    let p : 2 ^ n ≤ 2 ^ max n m = pow_mono (let e : n ≤ max n m = omega arith in e) in
    let q : 2 ^ m ≤ 2 ^ max n m = pow_mono (let e : m ≤ max n m = omega arith in e) in
    let a = h.greatest in
    let b = k.greatest in
    let l = law (max n m) x y (omega (arith, ints, a, p)) (omega (arith, ints, b, q)) in
    record { least = omega (arith, ints); greatest = omega (arith, ints, l) }

and_lt : (k a b : ℕ) → a < 2 ^ k → b < 2 ^ k → bit_and a b < 2 ^ k
and_lt k a b h g = omega (arith, h, and_le_l a b)

size_in : (n : ℕ) (v : ℤ) → IsIn (Unsigned n) v → IsIn (Unsigned n) (pos (unsigned_abs v))
size_in n (pos x) h = h
size_in n (negsuc x) h = let l = h.least in absurd (omega (arith, ints, l))

bitwise_in : (F : ℕ → ℕ → ℕ) → ((k a b : ℕ) → a < 2 ^ k → b < 2 ^ k → F a b < 2 ^ k) → (a b : Ty) (v u : ℤ) → not (true && (is_signed a || is_signed b)) ≡ true → IsIn a v → IsIn b u → IsIn (common_type a b) (pos (F (unsigned_abs v) (unsigned_abs u)))
bitwise_in F law (Unsigned n) (Unsigned m) v u takes h k = bits_in n m (unsigned_abs v) (unsigned_abs u) F law (size_in n v h) (size_in m u k)
bitwise_in F law (Unsigned n) (Signed m) v u takes h k = absurd (let e : ⊥ = cc in e)
bitwise_in F law (Signed n) b v u takes h k = absurd (let e : ⊥ = cc in e)

result_in : (op : Binary) (a b : Ty) (v u : ℤ) → IsType a → IsType b → are_operands op a b ≡ true → IsIn a v → IsIn b u → IsIn (binary_result op a b) (binary_value op v u)
result_in Add a b v u ok also takes h k = sum_in a b v u ok h k
result_in Subtract a b v u ok also takes h k = difference_in a b v u ok h k
result_in Multiply a b v u ok also takes h k = product_in a b v u ok also h k
result_in Less a b v u ok also takes h k = truth_in (int_lt v u)
result_in LessOrEqual a b v u ok also takes h k = truth_in _
result_in Greater a b v u ok also takes h k = truth_in _
result_in GreaterOrEqual a b v u ok also takes h k = truth_in _
result_in Equal a b v u ok also takes h k = truth_in _
result_in NotEqual a b v u ok also takes h k = truth_in _
result_in And a b v u ok also takes h k = bitwise_in bit_and and_lt a b v u takes h k
result_in Or a b v u ok also takes h k = bitwise_in bit_or or_lt a b v u takes h k
result_in Xor a b v u ok also takes h k = bitwise_in bit_xor xor_lt a b v u takes h k
result_in Min a b v u ok also takes h k = either_in (common_type a b) (int_lt u v) u v (in_wider b (common_type a b) u (common_right a b) k) (in_wider a (common_type a b) v (common_left a b) h)
result_in Max a b v u ok also takes h k = either_in (common_type a b) (int_lt u v) v u (in_wider a (common_type a b) v (common_left a b) h) (in_wider b (common_type a b) u (common_right a b) k)

sum_some : (a b : Ty) → 1 ≤ width_of (binary_result Add a b)
sum_some (Unsigned n) (Unsigned m) = omega arith
sum_some (Unsigned n) (Signed m) = omega arith
sum_some (Signed n) b = omega arith

product_some : (a b : Ty) → 1 ≤ width_of a → 1 ≤ width_of (binary_result Multiply a b)
product_some (Unsigned n) (Unsigned m) h = omega arith
product_some (Unsigned n) (Signed m) h = omega arith
product_some (Signed n) b h = omega arith

result_some : (op : Binary) (a b : Ty) → IsType a → 1 ≤ width_of (binary_result op a b)
result_some Add a b ok = sum_some a b
result_some Subtract a b ok = omega arith
result_some Multiply a b ok = product_some a b ok.some
result_some Less a b ok = omega arith
result_some LessOrEqual a b ok = omega arith
result_some Greater a b ok = omega arith
result_some GreaterOrEqual a b ok = omega arith
result_some Equal a b ok = omega arith
result_some NotEqual a b ok = omega arith
result_some And a b ok = common_some a b ok.some
result_some Or a b ok = common_some a b ok.some
result_some Xor a b ok = common_some a b ok.some
result_some Min a b ok = common_some a b ok.some
result_some Max a b ok = common_some a b ok.some

-- what the type rule of two operands says
pub record IsTyped (op : Binary) (a b t : Ty) : Type 0 where
  pub takes : are_operands op a b ≡ true
  pub common : width_of (common_type a b) ≤ 64
  pub result : binary_result op a b ≡ t
  pub typed : IsType t

pub binary_typed : (op : Binary) (a b t : Ty) → IsType a → binary_type op a b ≡ Some t → IsTyped op a b t
binary_typed op a b t ok h =
    let p = if_some (are_operands op a b && nat_le (width_of (common_type a b)) 64) (limited (binary_result op a b)) t h in
    let q = both (are_operands op a b) (nat_le (width_of (common_type a b)) 64) p.0 in
    record {
      takes = q.0;
      common = at_most (width_of (common_type a b)) 64 q.1;
      result = (limited_is (binary_result op a b) t p.1).0;
      typed = typed (binary_result op a b) t (result_some op a b ok) p.1;
    }

-- two operands
pub binary_in : (op : Binary) (a b t : Ty) (v u : ℤ) → IsType a → IsType b → binary_type op a b ≡ Some t → IsIn a v → IsIn b u → IsIn t (binary_value op v u)
binary_in op a b t v u ok also h p q =
    let r = binary_typed op a b t ok h in
    moved (binary_result op a b) t _ r.result (result_in op a b v u ok also r.takes p q)

-- one operand
magnitude_in : (a : Ty) (v : ℤ) → IsType a → IsIn a v → IsIn (magnitude_type a) (pos (unsigned_abs v))
magnitude_in (Unsigned n) v ok h = size_in n v h
magnitude_in (Signed n) (pos x) ok h =
    let g = h.greatest in
    let e = half n ok.some in
    record { least = omega (arith, ints); greatest = omega (arith, ints, g, e) }
magnitude_in (Signed n) (negsuc x) ok h =
    let g = h.least in
    let e = half n ok.some in
    record { least = omega (arith, ints); greatest = omega (arith, ints, g, e, pow_pos (n - 1)) }

one_bit : (a : Ty) → is_bit a ≡ true → a ≡ Unsigned 1
one_bit (Unsigned n) h = ap Unsigned (let e : n ≡ 1 = grind (arith, h) in e)
one_bit (Signed n) h = absurd (let e : ⊥ = cc in e)

turned_in : (v : ℤ) → IsIn (Unsigned 1) v → IsIn (Unsigned 1) (pos 1 -ℤ v)
turned_in v h =
    let a = h.least in let b = h.greatest in
    record { least = omega (arith, ints, a, b); greatest = omega (arith, ints, a, b) }

not_in : (a t : Ty) (v : ℤ) → a ≡ Unsigned 1 → a ≡ t → IsIn a v → IsIn t (pos 1 -ℤ v)
not_in a t v e f h = moved (Unsigned 1) t _ (sym e ∙ f) (turned_in v (moved a (Unsigned 1) v e h))

pub unary_in : (op : Unary) (a t : Ty) (v : ℤ) → IsType a → unary_type op a ≡ Some t → IsIn a v → IsIn t (unary_value op v)
unary_in Negate a t v ok h k = moved _ t _ (limited_is _ t h).0 (negation_in a v ok k)
unary_in Not a t v ok h k =
    let p = if_some (is_bit a) (Some a) t h in
    not_in a t v (one_bit a p.0) (some_is a t p.1) k
unary_in Abs a t v ok h k = moved _ t _ (some_is (magnitude_type a) t h) (magnitude_in a v ok k)

-- an operand and a literal
quotient_in : (a : Ty) (v : ℤ) (k : ℕ) → IsIn a v → IsIn a (scaling_value Divide v k)
quotient_in a (pos x) k h =
    let g = h.greatest in
    let l = quotient_le x k in
    record { least = omega (arith, ints); greatest = omega (arith, ints, g, l) }
quotient_in a (negsuc x) k h =
    let g = h.least in
    let l = quotient_le (suc x) k in
    let p : 0 < above a = positive a in
    record { least = omega (arith, ints, g, l); greatest = omega (arith, ints, p) }
  where
    positive : (a : Ty) → 0 < above a
    positive (Unsigned n) = pow_pos n
    positive (Signed n) = pow_pos (n - 1)

floor_in : (a : Ty) (v : ℤ) (k : ℕ) → IsIn a v → IsIn a (scaling_value ShiftRight v k)
floor_in a (pos x) k h =
    let g = h.greatest in
    let l = quotient_le x (2 ^ k) in
    record { least = omega (arith, ints); greatest = omega (arith, ints, g, l) }
floor_in a (negsuc x) k h =
    let g = h.least in
    let l = quotient_le x (2 ^ k) in
    record { least = omega (arith, ints, g, l); greatest = omega (arith, ints) }

pub scaling_in : (op : Scaling) (a t : Ty) (v : ℤ) (k : ℕ) → IsType a → scaling_type op a k ≡ Some t → IsIn a v → IsIn t (scaling_value op v k)
scaling_in Divide a t v k ok h p = moved a t _ (divided (nat_eq k 0) a t h) (quotient_in a v k p)
  where
    divided : (b : Bool) (a t : Ty) → (if b then None else Some a) ≡ Some t → a ≡ t
    divided true a t h = absurd (let e : ⊥ = cc in e)
    divided false a t h = some_is a t h
scaling_in ShiftLeft a t v k ok h p =
    let q = if_some (nat_le k 63) (limited (shifted_type a k)) t h in
    moved _ t _ (limited_is (shifted_type a k) t q.1).0 (shifted_in a k v ok p)
scaling_in ShiftRight a t v k ok h p =
    let q = if_some (nat_le k 63) (Some a) t h in
    moved a t _ (some_is a t q.1) (floor_in a v k p)

-- a value brought into a range
pub conversion_in : (op : Conversion) (t : Ty) (v : ℤ) → IsType t → IsIn t (conversion_value op t v)
conversion_in Cast t v ok = number_in t _ ok (code_below (width_of t) v)
conversion_in Saturate t v ok = saturate_in t v ok

-- a choice
chosen_in : (t : Ty) (c v u : ℤ) → IsIn t v → IsIn t u → IsIn t (select_value c v u)
chosen_in t (pos zero) v u h k = k
chosen_in t (pos (suc n)) v u h k = h
chosen_in t (negsuc n) v u h k = k

pub select_in : (c a b t : Ty) (w v u : ℤ) → select_type c a b ≡ Some t → IsIn a v → IsIn b u → IsIn t (select_value w v u)
select_in c a b t w v u h p q =
    let r = if_some (is_bit c) (limited (common_type a b)) t h in
    moved _ t _ (limited_is (common_type a b) t r.1).0
    (chosen_in (common_type a b) w v u (in_wider a (common_type a b) v (common_left a b) p) (in_wider b (common_type a b) u (common_right a b) q))

-- a body of a type that converts to the declared one
pub converts_within : (a b : Ty) → converts a b ≡ true → IsWithin a b
converts_within (Unsigned n) (Unsigned m) h = unsigned_within n m (at_most n m h)
converts_within (Unsigned n) (Signed m) h = mixed_within n m (let e : n + 1 ≤ m = grind (arith, h) in e)
converts_within (Signed n) (Unsigned m) h = absurd (let e : ⊥ = cc in e)
converts_within (Signed n) (Signed m) h = signed_within n m (at_most n m h)

pub converts_in : (a b : Ty) (v : ℤ) → converts a b ≡ true → IsIn a v → IsIn b v
converts_in a b v h p = in_wider a b v (converts_within a b h) p
