-- The operators' values are in the range of their types.
use Rattle.std.proofs.Common.{◌≡◌, ℕ, ◌+◌, ◌-◌, ◌*◌, ◌^◌, ◌<◌, ◌≤◌, max, ℤ, pos, negsuc, ◌+ℤ◌, ◌-ℤ◌, ◌*ℤ◌, ◌≤ℤ◌, unsigned_abs, sym, ◌∙◌, ap, arith}
use Rattle.std.proofs.Math.Pow.{pow_mono}
use Rattle.std.proofs.lemmas.Int.{ints, unsigned_abs-mul}
use Rattle.std.proofs.lemmas.Nat.{pow_pos, pow_below, pow-add, mul-lt, mul-le}
use Rattle.dk_base.specs.declared.ty.Ty.{Ty}
use Rattle.dk_base.specs.declared.ty.Ty.TheVariants.{Unsigned, Signed}
use Rattle.dk_base.specs.Types.{IsType, IsIn, IsWithin, width_of, common_type, sum_type, difference_type, product_type, negation_type}
use Rattle.dk_base.proofs.Codes.{half}

pub in_wider : (a b : Ty) (v : ℤ) → IsWithin a b → IsIn a v → IsIn b v
in_wider a b v w h =
    let l = w.low in
    let g = w.high in
    let p = h.least in
    let q = h.greatest in
    record { least = omega (arith, ints, l, p); greatest = omega (arith, ints, g, q) }

pub unsigned_within : (n m : ℕ) → n ≤ m → IsWithin (Unsigned n) (Unsigned m)
unsigned_within n m h = record { low = omega arith; high = pow_mono h }

pub signed_within : (n m : ℕ) → n ≤ m → IsWithin (Signed n) (Signed m)
signed_within n m h =
    let k : n - 1 ≤ m - 1 = omega arith in
    record { low = pow_mono k; high = pow_mono k }

pub mixed_within : (n m : ℕ) → n + 1 ≤ m → IsWithin (Unsigned n) (Signed m)
mixed_within n m h =
    let k : n ≤ m - 1 = omega arith in
    record { low = omega arith; high = pow_mono k }

pub common_left : (a b : Ty) → IsWithin a (common_type a b)
common_left (Unsigned n) (Unsigned m) = unsigned_within n (max n m) (omega arith)
common_left (Unsigned n) (Signed m) = mixed_within n (max (n + 1) m) (omega arith)
common_left (Signed n) (Unsigned m) = signed_within n (max n (m + 1)) (omega arith)
common_left (Signed n) (Signed m) = signed_within n (max n m) (omega arith)

pub common_right : (a b : Ty) → IsWithin b (common_type a b)
common_right (Unsigned n) (Unsigned m) = unsigned_within m (max n m) (omega arith)
common_right (Unsigned n) (Signed m) = signed_within m (max (n + 1) m) (omega arith)
common_right (Signed n) (Unsigned m) = mixed_within m (max n (m + 1)) (omega arith)
common_right (Signed n) (Signed m) = signed_within m (max n m) (omega arith)

one_more : (n : ℕ) → 2 ^ (n + 1) ≡ 2 ^ n + 2 ^ n
one_more n =
    let e : 2 ^ n * 2 ^ 1 ≡ 2 ^ n + 2 ^ n = grind arith in
    pow-add 2 n 1 ∙ e

less_one : (n : ℕ) → n + 1 - 1 ≡ n
less_one n = omega arith

sum_unsigned : (n : ℕ) (v u : ℤ) → IsIn (Unsigned n) v → IsIn (Unsigned n) u → IsIn (Unsigned (n + 1)) (v +ℤ u)
sum_unsigned n v u h k =
    let a = h.least in let b = h.greatest in let c = k.least in let d = k.greatest in
    let e = one_more n in
    record { least = omega (arith, ints, a, c); greatest = omega (arith, ints, b, d, e) }

-- the range of a signed type with one bit more
signed_more : (n : ℕ) → 2 ^ (n + 1 - 1) ≡ 2 ^ n
signed_more n = ap (λ x. 2 ^ x) (less_one n)

sum_signed : (n : ℕ) (v u : ℤ) → 1 ≤ n → IsIn (Signed n) v → IsIn (Signed n) u → IsIn (Signed (n + 1)) (v +ℤ u)
sum_signed n v u some h k =
    let a = h.least in let b = h.greatest in let c = k.least in let d = k.greatest in
    let e = half n some in
    let s = signed_more n in
    record { least = omega (arith, ints, a, c, e, s); greatest = omega (arith, ints, b, d, e, s) }

difference_signed : (t : Ty) (v u : ℤ) → 1 ≤ width_of t → IsIn t v → IsIn t u → IsIn (Signed (width_of t + 1)) (v -ℤ u)
difference_signed (Unsigned n) v u some h k =
    let a = h.least in let b = h.greatest in let c = k.least in let d = k.greatest in
    let s = signed_more n in
    record { least = omega (arith, ints, a, d, s); greatest = omega (arith, ints, b, c, s) }
difference_signed (Signed n) v u some h k =
    let a = h.least in let b = h.greatest in let c = k.least in let d = k.greatest in
    let e = half n some in
    let s = signed_more n in
    record { least = omega (arith, ints, a, d, e, s); greatest = omega (arith, ints, b, c, e, s) }

pub common_some : (a b : Ty) → 1 ≤ width_of a → 1 ≤ width_of (common_type a b)
common_some (Unsigned n) (Unsigned m) h = omega arith
common_some (Unsigned n) (Signed m) h = omega arith
common_some (Signed n) (Unsigned m) h = omega arith
common_some (Signed n) (Signed m) h = omega arith

sum_common : (a b : Ty) (v u : ℤ) → 1 ≤ width_of (common_type a b) → IsIn (common_type a b) v → IsIn (common_type a b) u → IsIn (sum_type a b) (v +ℤ u)
sum_common (Unsigned n) (Unsigned m) v u some h k = sum_unsigned (max n m) v u h k
sum_common (Unsigned n) (Signed m) v u some h k = sum_signed (max (n + 1) m) v u some h k
sum_common (Signed n) (Unsigned m) v u some h k = sum_signed (max n (m + 1)) v u some h k
sum_common (Signed n) (Signed m) v u some h k = sum_signed (max n m) v u some h k

pub sum_in : (a b : Ty) (v u : ℤ) → IsType a → IsIn a v → IsIn b u → IsIn (sum_type a b) (v +ℤ u)
sum_in a b v u ok h k = sum_common a b v u (common_some a b ok.some) (in_wider a (common_type a b) v (common_left a b) h) (in_wider b (common_type a b) u (common_right a b) k)

pub difference_in : (a b : Ty) (v u : ℤ) → IsType a → IsIn a v → IsIn b u → IsIn (difference_type a b) (v -ℤ u)
difference_in a b v u ok h k = difference_signed (common_type a b) v u (common_some a b ok.some) (in_wider a (common_type a b) v (common_left a b) h) (in_wider b (common_type a b) u (common_right a b) k)

pub negation_in : (a : Ty) (v : ℤ) → IsType a → IsIn a v → IsIn (negation_type a) (pos 0 -ℤ v)
negation_in (Unsigned n) v ok h =
    let a = h.least in let b = h.greatest in
    let s = signed_more n in
    record { least = omega (arith, ints, a, b, s); greatest = omega (arith, ints, a, b, s, pow_pos n) }
negation_in (Signed n) v ok h =
    let a = h.least in let b = h.greatest in
    let e = half n ok.some in
    let s = signed_more n in
    record { least = omega (arith, ints, a, b, e, s); greatest = omega (arith, ints, a, b, e, s, pow_pos (n - 1)) }

signed_from_abs : (k : ℕ) (v : ℤ) → unsigned_abs v < 2 ^ (k - 1) → IsIn (Signed k) v
signed_from_abs k (pos n) h = record { least = omega (arith, ints); greatest = omega (arith, ints, h) }
signed_from_abs k (negsuc n) h = record { least = omega (arith, ints, h); greatest = omega (arith, ints) }

abs_unsigned : (n : ℕ) (v : ℤ) → IsIn (Unsigned n) v → unsigned_abs v < 2 ^ n
abs_unsigned n (pos a) h = let g = h.greatest in omega (arith, ints, g)
abs_unsigned n (negsuc a) h = let g = h.least in omega (arith, ints, g)

abs_signed : (n : ℕ) (v : ℤ) → IsIn (Signed n) v → unsigned_abs v ≤ 2 ^ (n - 1)
abs_signed n (pos a) h = let g = h.greatest in omega (arith, ints, g)
abs_signed n (negsuc a) h = let g = h.least in omega (arith, ints, g)

unsigned_from_abs : (n : ℕ) (v : ℤ) → pos 0 ≤ℤ v → unsigned_abs v < 2 ^ n → IsIn (Unsigned n) v
unsigned_from_abs n (pos a) p h = record { least = omega (arith, ints); greatest = omega (arith, ints, h) }
unsigned_from_abs n (negsuc a) p h = record { least = omega (arith, ints, p); greatest = omega (arith, ints) }

product_not_negative : (v u : ℤ) → pos 0 ≤ℤ (v +ℤ pos 0) → pos 0 ≤ℤ (u +ℤ pos 0) → pos 0 ≤ℤ (v *ℤ u)
product_not_negative (pos a) (pos b) h k = omega (arith, ints)
product_not_negative (pos a) (negsuc b) h k = let e : 1 ≤ 0 = omega (arith, ints, k) in omega (arith, ints, e)
product_not_negative (negsuc a) u h k = let e : 1 ≤ 0 = omega (arith, ints, h) in omega (arith, ints, e)

distribute : (x y m : ℕ) → x * m + y * m + m ≡ (x + y + 1) * m
distribute x y m = grind arith

mixed_bound : (a b n m : ℕ) → 1 ≤ m → a < 2 ^ n → b ≤ 2 ^ (m - 1) → a * b < 2 ^ (n + m - 1)
mixed_bound a b n m some p q =
    let l : a * b ≤ a * 2 ^ (m - 1) = mul-le a b a (2 ^ (m - 1)) (omega arith) q in
    let d : (2 ^ n - 1 - a) * 2 ^ (m - 1) + a * 2 ^ (m - 1) + 2 ^ (m - 1) ≡ 2 ^ n * 2 ^ (m - 1) =
    let r : 2 ^ n ≡ (2 ^ n - 1 - a) + a + 1 = omega arith in
    let t : (2 ^ n - 1 - a) * 2 ^ (m - 1) + a * 2 ^ (m - 1) + 2 ^ (m - 1) ≡ ((2 ^ n - 1 - a) + a + 1) * 2 ^ (m - 1) = distribute (2 ^ n - 1 - a) a (2 ^ (m - 1)) in
    t ∙ ap (λ x. x * 2 ^ (m - 1)) (sym r) in
    let e : n + (m - 1) ≡ n + m - 1 = omega arith in
    let f : 2 ^ (n + m - 1) ≡ 2 ^ n * 2 ^ (m - 1) = ap (λ x. 2 ^ x) (sym e) ∙ pow-add 2 n (m - 1) in
    omega (arith, l, d, f, pow_pos (m - 1))

signed_bound : (a b n m : ℕ) → 1 ≤ n → 1 ≤ m → a ≤ 2 ^ (n - 1) → b ≤ 2 ^ (m - 1) → a * b < 2 ^ (n + m - 1)
signed_bound a b n m some any p q =
    let l : a * b ≤ 2 ^ (n - 1) * 2 ^ (m - 1) = mul-le a b (2 ^ (n - 1)) (2 ^ (m - 1)) p q in
    let f : 2 ^ ((n - 1) + (m - 1)) ≡ 2 ^ (n - 1) * 2 ^ (m - 1) = pow-add 2 (n - 1) (m - 1) in
    let g : 2 ^ ((n - 1) + (m - 1)) < 2 ^ (n + m - 1) = pow_below ((n - 1) + (m - 1)) (n + m - 1) (omega arith) in
    omega (arith, l, f, g)

pub product_in : (a b : Ty) (v u : ℤ) → IsType a → IsType b → IsIn a v → IsIn b u → IsIn (product_type a b) (v *ℤ u)
product_in (Unsigned n) (Unsigned m) v u ok also h k =
    let p = mul-lt _ _ _ _ (abs_unsigned n v h) (abs_unsigned m u k) in
    let e = pow-add 2 n m in
    let q : unsigned_abs (v *ℤ u) < 2 ^ (n + m) = omega (arith, p, e, unsigned_abs-mul v u) in
    unsigned_from_abs (n + m) (v *ℤ u) (product_not_negative v u h.least k.least) q
product_in (Unsigned n) (Signed m) v u ok also h k =
    let p = mixed_bound _ _ n m also.some (abs_unsigned n v h) (abs_signed m u k) in
    signed_from_abs (n + m) (v *ℤ u) (let q : unsigned_abs (v *ℤ u) < 2 ^ (n + m - 1) = omega (arith, p, unsigned_abs-mul v u) in q)
product_in (Signed n) (Unsigned m) v u ok also h k =
    let p = mixed_bound _ _ m n ok.some (abs_unsigned m u k) (abs_signed n v h) in
    let e : 2 ^ (m + n - 1) ≡ 2 ^ (n + m - 1) = ap (λ x. 2 ^ x) (let r : m + n - 1 ≡ n + m - 1 = omega arith in r) in
    let c : unsigned_abs u * unsigned_abs v ≡ unsigned_abs v * unsigned_abs u = grind arith in
    signed_from_abs (n + m) (v *ℤ u) (let q : unsigned_abs (v *ℤ u) < 2 ^ (n + m - 1) = omega (arith, p, e, c, unsigned_abs-mul v u) in q)
product_in (Signed n) (Signed m) v u ok also h k =
    let p = signed_bound _ _ n m ok.some also.some (abs_signed n v h) (abs_signed m u k) in
    signed_from_abs (n + m) (v *ℤ u) (let q : unsigned_abs (v *ℤ u) < 2 ^ (n + m - 1) = omega (arith, p, unsigned_abs-mul v u) in q)

pub common_turned : (a b : Ty) → common_type a b ≡ common_type b a
common_turned (Unsigned n) (Unsigned m) = ap Unsigned (let e : max n m ≡ max m n = omega arith in e)
common_turned (Unsigned n) (Signed m) = ap Signed (let e : max (n + 1) m ≡ max m (n + 1) = omega arith in e)
common_turned (Signed n) (Unsigned m) = ap Signed (let e : max n (m + 1) ≡ max (m + 1) n = omega arith in e)
common_turned (Signed n) (Signed m) = ap Signed (let e : max n m ≡ max m n = omega arith in e)
