-- Products with powers of two, and quotients by them rounded down.
use Rattle.std.proofs.Common.{◌≡◌, ℕ, suc, ◌+◌, ◌-◌, ◌*◌, ◌%◌, ◌/◌, ◌^◌, ◌<◌, ◌≤◌, ℤ, pos, negsuc, ◌-ℤ◌, ◌*ℤ◌, sym, ◌∙◌, ap, subst, arith, inl, inr}
use Rattle.std.specs.Int.{int_div_euclid}
use Rattle.std.proofs.Math.Pow.{pow_mono}
use Rattle.std.proofs.lemmas.Int.{ints}
use Rattle.std.proofs.lemmas.Bool.{cases_lt}
use Rattle.std.proofs.lemmas.Nat.{pow_pos, pow-add, mul-le, div-add-mod', mod_below, div-mul-add, le-div, shr_below}
use Rattle.dk_base.specs.declared.ty.Ty.{Ty}
use Rattle.dk_base.specs.declared.ty.Ty.TheVariants.{Unsigned, Signed}
use Rattle.dk_base.specs.Types.{IsType, IsIn, IsWithin, width_of, shifted_type, narrowed_type}
use Rattle.dk_base.specs.Numbers.{code, number}
use Rattle.dk_base.proofs.Congruence.{IsCongruent}
use Rattle.dk_base.proofs.Codes.{code_by, number_congruent, number_low, number_high, half, mod_same}

times_less : (a b m : ℕ) → a < b → 0 < m → a * m < b * m
times_less a b m h some =
    let e : b ≡ (b - 1 - a) + a + 1 = omega arith in
    let d : ((b - 1 - a) + a + 1) * m ≡ (b - 1 - a) * m + a * m + m = grind arith in
    let f = ap (λ x. x * m) e ∙ d in
    omega (arith, f, some)

signed_scale : (n k : ℕ) → 1 ≤ n → 2 ^ (n + k - 1) ≡ 2 ^ (n - 1) * 2 ^ k
signed_scale n k some =
    let e : n + k - 1 ≡ (n - 1) + k = omega arith in
    ap (λ m. 2 ^ m) e ∙ pow-add 2 (n - 1) k

quotient_below : (n k x : ℕ) → k < n → x < 2 ^ n → x / 2 ^ k < 2 ^ (n - k)
quotient_below n k x lt h =
    let e : n ≡ (n - k) + k = omega arith in
    let P : ℕ → Type 0 = λ m. x < 2 ^ m in
    shr_below x (n - k) k (subst P e h)

complement : (a q m : ℕ) → q < a → (a - 1 - q) * m + q * m + m ≡ a * m
complement a q m h =
    let e : a ≡ (a - 1 - q) + q + 1 = omega arith in
    let d : ((a - 1 - q) + q + 1) * m ≡ (a - 1 - q) * m + q * m + m = grind arith in
    sym (ap (λ x. x * m) e ∙ d)

scale_pos : (x a i j m s : ℕ) → x + i * m ≡ a + j * m → x * s + i * (m * s) ≡ a * s + j * (m * s)
scale_pos x a i j m s e =
    let l : x * s + i * (m * s) ≡ (x + i * m) * s = grind arith in
    let r : (a + j * m) * s ≡ a * s + j * (m * s) = grind arith in
    l ∙ ap (λ z. z * s) e ∙ r

scale_neg : (x a i j m s : ℕ) → i * m ≡ a + j * m + x → i * (m * s) ≡ a * s + j * (m * s) + x * s
scale_neg x a i j m s e =
    let l : i * (m * s) ≡ (i * m) * s = grind arith in
    let r : (a + j * m + x) * s ≡ a * s + j * (m * s) + x * s = grind arith in
    l ∙ ap (λ z. z * s) e ∙ r

pub congruent_scale : (m s : ℕ) (v : ℤ) (a : ℕ) → IsCongruent m v a → IsCongruent (m * s) (v *ℤ pos s) (a * s)
congruent_scale m s (pos x) a p =
    let h = p.is in
    let e : x + p.up * m ≡ a + p.down * m = omega (arith, ints, h) in
    let g = scale_pos x a p.up p.down m s e in
    record { up = p.up; down = p.down; is = omega (arith, ints, g) }
congruent_scale m s (negsuc x) a p =
    let h = p.is in
    let e : p.up * m ≡ a + p.down * m + suc x = omega (arith, ints, h) in
    let g = scale_neg (suc x) a p.up p.down m s e in
    record { up = p.up; down = p.down; is = omega (arith, ints, g) }

-- the bits of a product with 2 ^ k
pub code_scale : (t : Ty) (k n : ℕ) → n < 2 ^ width_of t → n * 2 ^ k ≡ code (width_of t + k) (number t n *ℤ pos (2 ^ k))
code_scale t k n h =
    let p = pow-add 2 (width_of t) k in
    let l : n * 2 ^ k < 2 ^ width_of t * 2 ^ k = times_less n (2 ^ width_of t) (2 ^ k) h (pow_pos k) in
    let P : ℕ → Type 0 = λ m. IsCongruent m (number t n *ℤ pos (2 ^ k)) (n * 2 ^ k) in
    sym (code_by (width_of t + k) _ (n * 2 ^ k) (omega (arith, p, l)) (subst P (sym p) (congruent_scale (2 ^ width_of t) (2 ^ k) (number t n) n (number_congruent t n))))

pub shifted_in : (t : Ty) (k : ℕ) (v : ℤ) → IsType t → IsIn t v → IsIn (shifted_type t k) (v *ℤ pos (2 ^ k))
shifted_in (Unsigned n) k (pos x) ok h =
    let g = h.greatest in
    let p = pow-add 2 n k in
    let l = times_less x (2 ^ n) (2 ^ k) (omega (arith, ints, g)) (pow_pos k) in
    record { least = omega (arith, ints); greatest = omega (arith, ints, p, l) }
shifted_in (Unsigned n) k (negsuc x) ok h = let g = h.least in absurd (omega (arith, ints, g))
shifted_in (Signed n) k (pos x) ok h =
    let g = h.greatest in
    let p = signed_scale n k ok.some in
    let l = times_less x (2 ^ (n - 1)) (2 ^ k) (omega (arith, ints, g)) (pow_pos k) in
    record { least = omega (arith, ints); greatest = omega (arith, ints, p, l) }
shifted_in (Signed n) k (negsuc x) ok h =
    let g = h.least in
    let p = signed_scale n k ok.some in
    let s : suc x ≤ 2 ^ (n - 1) = omega (arith, ints, g) in
    let l : suc x * 2 ^ k ≤ 2 ^ (n - 1) * 2 ^ k = mul-le (suc x) (2 ^ k) (2 ^ (n - 1)) (2 ^ k) s (omega arith) in
    record { least = omega (arith, ints, p, l); greatest = omega (arith, ints, p, l, pow_pos k, pow_pos (n + k - 1)) }

-- the bits from bit k on are the quotient by 2 ^ k, rounded down
pub high_unsigned : (n k x : ℕ) → k < n → x < 2 ^ n → number (Unsigned (n - k)) (x / 2 ^ k % 2 ^ (n - k)) ≡ int_div_euclid (number (Unsigned n) x) (pos (2 ^ k))
high_unsigned n k x lt h =
    let q = quotient_below n k x lt h in
    ap (number (Unsigned (n - k))) (mod_same (x / 2 ^ k) (2 ^ (n - k)) q) ∙ number_low (Unsigned (n - k)) (x / 2 ^ k) q ∙
    sym (ap (λ z. int_div_euclid z (pos (2 ^ k))) (number_low (Unsigned n) x h))

pub high_not_negative : (n k x : ℕ) → k < n → x < 2 ^ (n - 1) → number (Signed (n - k)) (x / 2 ^ k % 2 ^ (n - k)) ≡ int_div_euclid (number (Signed n) x) (pos (2 ^ k))
high_not_negative n k x lt low =
    let e : n - 1 ≡ (n - k - 1) + k = omega arith in
    let q : x / 2 ^ k < 2 ^ (n - k - 1) = shr_below x (n - k - 1) k (let P : ℕ → Type 0 = λ m. x < 2 ^ m in subst P e low) in
    let f = half (n - k) (let d : 1 ≤ n - k = omega arith in d) in
    let r : x / 2 ^ k < 2 ^ (n - k) = omega (arith, q, f) in
    ap (number (Signed (n - k))) (mod_same (x / 2 ^ k) (2 ^ (n - k)) r) ∙ number_low (Signed (n - k)) (x / 2 ^ k) q ∙
    sym (ap (λ z. int_div_euclid z (pos (2 ^ k))) (number_low (Signed n) x low))

pub high_negative : (n k x : ℕ) → k < n → 2 ^ (n - 1) ≤ x → x < 2 ^ n → number (Signed (n - k)) (x / 2 ^ k % 2 ^ (n - k)) ≡ int_div_euclid (number (Signed n) x) (pos (2 ^ k))
high_negative n k x lt high h =
    let e : n - 1 ≡ (n - k - 1) + k = omega arith in
    let p : 2 ^ (n - 1) ≡ 2 ^ (n - k - 1) * 2 ^ k = ap (λ m. 2 ^ m) e ∙ pow-add 2 (n - k - 1) k in
    let q : 2 ^ (n - k - 1) ≤ x / 2 ^ k = le-div (2 ^ (n - k - 1)) x (2 ^ k) (pow_pos k) (omega (arith, p)) in
    let r = quotient_below n k x lt h in
    let w : 2 ^ n ≡ 2 ^ (n - k) * 2 ^ k = ap (λ m. 2 ^ m) (let g : n ≡ (n - k) + k = omega arith in g) ∙ pow-add 2 (n - k) k in
    let d : x / 2 ^ k * 2 ^ k + x % 2 ^ k ≡ x = div-add-mod' x (2 ^ k) in
    let m : x % 2 ^ k < 2 ^ k = mod_below x (2 ^ k) (pow_pos k) in
    let c = complement (2 ^ (n - k)) (x / 2 ^ k) (2 ^ k) r in
    let s : 2 ^ n - 1 - x ≡ (2 ^ (n - k) - 1 - x / 2 ^ k) * 2 ^ k + (2 ^ k - 1 - x % 2 ^ k) = omega (arith, w, d, m, c) in
    let l : 2 ^ k - 1 - x % 2 ^ k < 2 ^ k = omega (arith, m) in
    let u : (2 ^ n - 1 - x) / 2 ^ k ≡ 2 ^ (n - k) - 1 - x / 2 ^ k = ap (λ z. z / 2 ^ k) s ∙ div-mul-add (2 ^ (n - k) - 1 - x / 2 ^ k) (2 ^ k) (2 ^ k - 1 - x % 2 ^ k) l in
    let v : pos x -ℤ pos (2 ^ n) ≡ negsuc (2 ^ n - 1 - x) = omega (arith, ints, h) in
    let z : pos (x / 2 ^ k) -ℤ pos (2 ^ (n - k)) ≡ negsuc (2 ^ (n - k) - 1 - x / 2 ^ k) = omega (arith, ints, r) in
    ap (number (Signed (n - k))) (mod_same (x / 2 ^ k) (2 ^ (n - k)) r) ∙ number_high (Signed (n - k)) (x / 2 ^ k) q ∙ z ∙ sym (ap negsuc u) ∙
    sym (ap (λ y. int_div_euclid y (pos (2 ^ k))) (number_high (Signed n) x high ∙ v))

-- for each type
pub high_bits_of : (t : Ty) (k x : ℕ) → k < width_of t → x < 2 ^ width_of t → number (narrowed_type t k) (x / 2 ^ k % 2 ^ (width_of t - k)) ≡ int_div_euclid (number t x) (pos (2 ^ k))
high_bits_of (Unsigned n) k x lt h = high_unsigned n k x lt h
high_bits_of (Signed n) k x lt h =
    elim (cases_lt x (2 ^ (n - 1))) [ inl low ↦ high_not_negative n k x lt low | inr high ↦ high_negative n k x lt high h ]

pub narrowed_within : (t : Ty) (k : ℕ) → IsWithin (narrowed_type t k) t
narrowed_within (Unsigned n) k = record { low = omega arith; high = pow_mono (let e : n - k ≤ n = omega arith in e) }
narrowed_within (Signed n) k =
    let e : n - k - 1 ≤ n - 1 = omega arith in
    record { low = pow_mono e; high = pow_mono e }

-- nothing is left above the highest bit
small_quotient : (x m : ℕ) → x < m → x / m ≡ 0
small_quotient x m h = ap (λ z. z / m) (let e : x ≡ 0 * m + x = grind arith in e) ∙ div-mul-add 0 m x h

pub all_shifted_out : (n k : ℕ) (v : ℤ) → n ≤ k → IsIn (Unsigned n) v → int_div_euclid v (pos (2 ^ k)) ≡ pos 0
all_shifted_out n k (pos x) le h =
    let g = h.greatest in
    let p : 2 ^ n ≤ 2 ^ k = pow_mono le in
    ap pos (small_quotient x (2 ^ k) (omega (arith, ints, g, p)))
all_shifted_out n k (negsuc x) le h = let g = h.least in absurd (omega (arith, ints, g))

pub sign_is_left : (n k : ℕ) (v : ℤ) → n - 1 ≤ k → IsIn (Signed n) v → int_div_euclid v (pos (2 ^ k)) ≡ int_div_euclid v (pos (2 ^ (n - 1)))
sign_is_left n k (pos x) le h =
    let g = h.greatest in
    let p : 2 ^ (n - 1) ≤ 2 ^ k = pow_mono le in
    ap pos (small_quotient x (2 ^ k) (omega (arith, ints, g, p)) ∙ sym (small_quotient x (2 ^ (n - 1)) (omega (arith, ints, g))))
sign_is_left n k (negsuc x) le h =
    let g = h.least in
    let p : 2 ^ (n - 1) ≤ 2 ^ k = pow_mono le in
    ap negsuc (small_quotient x (2 ^ k) (omega (arith, ints, g, p)) ∙ sym (small_quotient x (2 ^ (n - 1)) (omega (arith, ints, g))))

-- a shift by no bit
pub shifted_by_none : (t : Ty) → shifted_type t 0 ≡ t
shifted_by_none (Unsigned n) = ap Unsigned (let e : n + 0 ≡ n = omega arith in e)
shifted_by_none (Signed n) = ap Signed (let e : n + 0 ≡ n = omega arith in e)

pub times_one : (v : ℤ) → v *ℤ pos (2 ^ 0) ≡ v
times_one (pos n) = ap pos (let e : n * 1 ≡ n = grind arith in e)
times_one (negsuc n) = let e : suc n * 1 ≡ suc n = grind arith in omega (arith, ints, e)
