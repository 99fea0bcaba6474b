-- Numbers in halves, and conversions that change nothing.
use Rattle.std.proofs.Common.{◌≡◌, ◌⊎◌, inl, inr, ℕ, zero, suc, ◌+◌, ◌-◌, ◌*◌, ◌/◌, ◌%◌, ◌^◌, ◌<◌, ℤ, pos, negsuc, ◌+ℤ◌, ◌-ℤ◌, ◌*ℤ◌, ◌<ℤ◌, neg_ℤ, unsigned_abs, int_div, sym, ap, ◌∙◌, arith}
use Rattle.std.specs.Int.{int_div_euclid, int_rem_euclid}
use Rattle.std.proofs.lemmas.Nat.{div-add-mod', pow_pos, mod_below}
use Rattle.dk_base.specs.declared.ty.Ty.{Ty}
use Rattle.dk_base.specs.declared.ty.Ty.TheVariants.{Unsigned, Signed}
use Rattle.dk_base.specs.declared.operator.Conversion.{Conversion}
use Rattle.dk_base.specs.declared.operator.Conversion.TheVariants.{Cast, Saturate}
use Rattle.dk_base.specs.declared.operator.Scaling.{Scaling}
use Rattle.dk_base.specs.declared.operator.Scaling.TheVariants.{Divide, ShiftLeft, ShiftRight}
use Rattle.dk_base.specs.Types.{IsType, IsIn, least_of, greatest_of}
use Rattle.dk_base.specs.Numbers.{wrap, saturate, number, code}
use Rattle.dk_base.specs.Operators.{conversion_value, scaling_value}
use Rattle.dk_base.proofs.Codes.{number_low, number_code, code_pos}
use Rattle.dk_base.proofs.Congruence.{code_below}
use Rattle.dk_base.proofs.Nearest.{saturate_placed}
use Rattle.std.proofs.lemmas.Int.{ints}
use Rattle.std.proofs.Math.IntN.{+ℤ_one, -ℤ_one, suc_ℤ-*ℤ, pred_ℤ-*ℤ, *ℤ_comm, *ℤ-zero, zero-*ℤ}

up : (b a : ℤ) (n : ℕ) → (b +ℤ pos n) *ℤ a ≡ (b *ℤ a) +ℤ (pos n *ℤ a) → (b +ℤ pos (suc n)) *ℤ a ≡ (b *ℤ a) +ℤ (pos (suc n) *ℤ a)
up b a n so =
    let same : b +ℤ pos (suc n) ≡ (b +ℤ pos n) +ℤ pos 1 = omega (arith, ints) in
    let one = ap (λ z. z *ℤ a) (same ∙ +ℤ_one (b +ℤ pos n)) ∙ suc_ℤ-*ℤ (b +ℤ pos n) a in
    let two : pos (suc n) *ℤ a ≡ (pos n *ℤ a) +ℤ a = suc_ℤ-*ℤ (pos n) a in
    omega (arith, ints, one, two, so)

down : (b a : ℤ) (n : ℕ) → (b +ℤ neg_ℤ (pos n)) *ℤ a ≡ (b *ℤ a) +ℤ (neg_ℤ (pos n) *ℤ a) → (b +ℤ negsuc n) *ℤ a ≡ (b *ℤ a) +ℤ (negsuc n *ℤ a)
down b a n so =
    let same : b +ℤ negsuc n ≡ (b +ℤ neg_ℤ (pos n)) -ℤ pos 1 = omega (arith, ints) in
    let also : negsuc n ≡ neg_ℤ (pos n) -ℤ pos 1 = omega (arith, ints) in
    let one = ap (λ z. z *ℤ a) (same ∙ -ℤ_one (b +ℤ neg_ℤ (pos n))) ∙ pred_ℤ-*ℤ (b +ℤ neg_ℤ (pos n)) a in
    let two = ap (λ z. z *ℤ a) (also ∙ -ℤ_one (neg_ℤ (pos n))) ∙ pred_ℤ-*ℤ (neg_ℤ (pos n)) a in
    omega (arith, ints, one, two, so)

-- a sum times a number
pub sum_times : (b c a : ℤ) → (b +ℤ c) *ℤ a ≡ (b *ℤ a) +ℤ (c *ℤ a)
sum_times b (pos zero) a =
    let same : b +ℤ pos 0 ≡ b = omega (arith, ints) in
    let one = ap (λ z. z *ℤ a) same in
    let two = zero-*ℤ a in
    omega (arith, ints, one, two)
sum_times b (pos (suc n)) a = up b a n (sum_times b (pos n) a)
sum_times b (negsuc zero) a = down b a zero (let same : b +ℤ pos 0 ≡ b = omega (arith, ints) in let one = ap (λ z. z *ℤ a) same in let two = zero-*ℤ a in omega (arith, ints, one, two))
sum_times b (negsuc (suc n)) a = down b a (suc n) (sum_times b (negsuc n) a)

-- the order of three factors, the last of which is not below 0
pub times_times : (a b : ℤ) (k : ℕ) → a *ℤ (b *ℤ pos k) ≡ (a *ℤ b) *ℤ pos k
times_times a b zero =
    let one = ap (λ z. a *ℤ z) (*ℤ-zero b) ∙ *ℤ-zero a in
    let two = *ℤ-zero (a *ℤ b) in
    omega (arith, ints, one, two)
times_times a b (suc k) =
    let more : (c : ℤ) → c *ℤ pos (suc k) ≡ (c *ℤ pos k) +ℤ c = λ c. *ℤ_comm c (pos (suc k)) ∙ suc_ℤ-*ℤ (pos k) c ∙ ap (λ z. z +ℤ c) (*ℤ_comm (pos k) c) in
    let sum = *ℤ_comm a ((b *ℤ pos k) +ℤ b) ∙ sum_times (b *ℤ pos k) b a in
    let one = ap (λ z. a *ℤ z) (more b) in
    let two = more (a *ℤ b) in
    let three = *ℤ_comm (b *ℤ pos k) a in
    let four = *ℤ_comm b a in
    let so = times_times a b k in
    omega (arith, ints, one, two, three, four, sum, so)

-- the bits of a number below a place and above it
euclid : (v : ℤ) (m : ℕ) → 0 < m → v ≡ pos (unsigned_abs (int_rem_euclid v (pos m))) +ℤ (int_div_euclid v (pos m) *ℤ pos m)
euclid (pos a) m some = let d : a / m * m + a % m ≡ a = div-add-mod' a m in omega (arith, ints, d)
euclid (negsuc a) m some =
    let d : a / m * m + a % m ≡ a = div-add-mod' a m in
    let b : a % m < m = mod_below a m some in
    let one : (a / m + 1) * m ≡ a / m * m + m = grind arith in
    omega (arith, ints, d, b, one)

pub halved : (v : ℤ) (n : ℕ) → v ≡ wrap (Unsigned n) v +ℤ (int_div_euclid v (pos (2 ^ n)) *ℤ pos (2 ^ n))
unfolding code
halved v n = euclid v (2 ^ n) (pow_pos n) ∙ ap (λ z. z +ℤ (int_div_euclid v (pos (2 ^ n)) *ℤ pos (2 ^ n))) (sym (number_low (Unsigned n) (code n v) (code_below n v)))

-- a product whose second factor is in halves
pub right_whole : (l low high w p q e : ℤ) (n : ℕ) → w ≡ low +ℤ (high *ℤ pos (2 ^ n)) → p ≡ l *ℤ low → q ≡ l *ℤ high → e ≡ p +ℤ (q *ℤ pos (2 ^ n)) → e ≡ l *ℤ w
right_whole l low high w p q e n whole one two sum =
    let k = pos (2 ^ n) in
    let f = ap (λ z. l *ℤ z) whole ∙ *ℤ_comm l (low +ℤ (high *ℤ k)) ∙ sum_times low (high *ℤ k) l in
    let g = *ℤ_comm l low in
    let h = *ℤ_comm (high *ℤ k) l ∙ times_times l high (2 ^ n) in
    let i = ap (λ z. z *ℤ k) two in
    omega (arith, ints, f, g, h, i, one, sum)

-- the same of the first factor
pub left_whole : (r low high w p q e : ℤ) (n : ℕ) → w ≡ low +ℤ (high *ℤ pos (2 ^ n)) → p ≡ low *ℤ r → q ≡ high *ℤ r → e ≡ p +ℤ (q *ℤ pos (2 ^ n)) → e ≡ w *ℤ r
left_whole r low high w p q e n whole one two sum =
    right_whole r low high w p q e n whole (one ∙ *ℤ_comm low r) (two ∙ *ℤ_comm high r) sum ∙ *ℤ_comm r w

-- a conversion to a type that has the number
pub conversion_same : (how : Conversion) (t : Ty) (v : ℤ) → IsType t → IsIn t v → conversion_value how t v ≡ v
conversion_same Cast t v ok is = number_code t v ok is
conversion_same Saturate t v ok is = by (saturate_placed t v ok).placed
  where
    under : (s : Ty) → v <ℤ least_of s → IsIn s v → ⊥
    under (Unsigned n) low inside = let l = inside.least in omega (arith, ints, low, l)
    under (Signed n) low inside = let l = inside.least in omega (arith, ints, low, l)

    over : (s : Ty) → greatest_of s <ℤ v → IsIn s v → ⊥
    over (Unsigned n) high inside = let g = inside.greatest in omega (arith, ints, high, g)
    over (Signed n) high inside = let g = inside.greatest in omega (arith, ints, high, g)

    by : ((v <ℤ least_of t) × (saturate t v ≡ least_of t)) ⊎ (((greatest_of t) <ℤ v) × (saturate t v ≡ greatest_of t)) ⊎ (IsIn t v × (saturate t v ≡ v)) → saturate t v ≡ v
    by (inl (low, e)) = absurd (under t low is)
    by (inr (inl (high, e))) = absurd (over t high is)
    by (inr (inr (inside, e))) = e

-- what is made of 0 by a conversion or a shift
pub conversion_zero : (how : Conversion) (t : Ty) → conversion_value how t (pos 0) ≡ pos 0
conversion_zero Cast t = zero_wrapped t
  where
    zero_wrapped : (s : Ty) → wrap s (pos 0) ≡ pos 0
    zero_wrapped (Unsigned n) = ap (number (Unsigned n)) (code_pos n 0 (pow_pos n)) ∙ number_low (Unsigned n) 0 (pow_pos n)
    zero_wrapped (Signed n) = ap (number (Signed n)) (code_pos n 0 (pow_pos n)) ∙ number_low (Signed n) 0 (pow_pos (n - 1))
conversion_zero Saturate (Unsigned n) = let p = pow_pos n in grind (arith, ints, p)
conversion_zero Saturate (Signed n) = let p = pow_pos (n - 1) in grind (arith, ints, p)

pub scaling_zero : (op : Scaling) (k : ℕ) → scaling_value op (pos 0) k ≡ pos 0
scaling_zero Divide k = zero_quotient k
  where
    zero_quotient : (n : ℕ) → int_div (pos 0) (pos n) ≡ pos 0
    zero_quotient n = ap pos (let e : 0 / n ≡ 0 = grind arith in e)
scaling_zero ShiftLeft k = zero-*ℤ (pos (2 ^ k))
scaling_zero ShiftRight k = ap pos (let e : 0 / 2 ^ k ≡ 0 = grind arith in e)
