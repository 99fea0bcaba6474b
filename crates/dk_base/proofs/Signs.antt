-- Absolute values and quotients by bits.
use Rattle.std.proofs.Common.{◌≡◌, ℕ, zero, suc, ◌+◌, ◌-◌, ◌*◌, ◌%◌, ◌/◌, ◌^◌, ◌<◌, ◌≤◌, nat_eq, if◌then◌else◌, pos, negsuc, ◌-ℤ◌, neg_ℤ, int_div, unsigned_abs, sym, ◌∙◌, ap, arith, inl, inr, ◌⊎◌}
use Rattle.std.proofs.lemmas.Int.{ints}
use Rattle.std.proofs.lemmas.Bool.{cases_lt}
use Rattle.std.proofs.lemmas.Nat.{pow_pos, div-mul-add, div-add-mod'}
use Rattle.dk_base.specs.declared.ty.Ty.TheVariants.{Unsigned, Signed}
use Rattle.dk_base.specs.Types.{IsType, IsIn}
use Rattle.dk_base.specs.Numbers.{code, number}
use Rattle.dk_base.proofs.Codes.{number_low, number_high, number_is, code_pos, code_subtract, half, mod_same}

sign_of_low : (n x : ℕ) → x < 2 ^ (n - 1) → x / 2 ^ (n - 1) % 2 ^ 1 ≡ 0
sign_of_low n x low = ap (λ z. z % 2 ^ 1) (ap (λ z. z / 2 ^ (n - 1)) (let e : x ≡ 0 * 2 ^ (n - 1) + x = grind arith in e) ∙ div-mul-add 0 (2 ^ (n - 1)) x low)

sign_of_high : (n x : ℕ) → 1 ≤ n → 2 ^ (n - 1) ≤ x → x < 2 ^ n → x / 2 ^ (n - 1) % 2 ^ 1 ≡ 1
sign_of_high n x some high h =
    let q = half n some in
    let m : x - 2 ^ (n - 1) < 2 ^ (n - 1) = omega (arith, q) in
    let e : x ≡ 1 * 2 ^ (n - 1) + (x - 2 ^ (n - 1)) = omega arith in
    ap (λ z. z % 2 ^ 1) (ap (λ z. z / 2 ^ (n - 1)) e ∙ div-mul-add 1 (2 ^ (n - 1)) (x - 2 ^ (n - 1)) m)

-- the sign bit distinguishes the two halves
pub by_sign : (n x p q : ℕ) → 1 ≤ n → x < 2 ^ n →
    ((x < 2 ^ (n - 1)) × ((if nat_eq (x / 2 ^ (n - 1) % 2 ^ 1) 1 then p else q) ≡ q)) ⊎ ((2 ^ (n - 1) ≤ x) × ((if nat_eq (x / 2 ^ (n - 1) % 2 ^ 1) 1 then p else q) ≡ p))
by_sign n x p q some h = elim (cases_lt x (2 ^ (n - 1))) [
  | inl low ↦ inl (low, ap (λ s. if nat_eq s 1 then p else q) (sign_of_low n x low))
  | inr high ↦ inr (high, ap (λ s. if nat_eq s 1 then p else q) (sign_of_high n x some high h))
]

-- the absolute value, by turning the bits over where the sign bit is 1
pub magnitude_bits : (n x : ℕ) → 1 ≤ n → x < 2 ^ n →
    number (Unsigned n) (if nat_eq (x / 2 ^ (n - 1) % 2 ^ 1) 1 then (0 + 2 ^ n - x) % 2 ^ n else x) ≡ pos (unsigned_abs (number (Signed n) x))
magnitude_bits n x some h = elim (by_sign n x ((0 + 2 ^ n - x) % 2 ^ n) x some h) [
  | inl (low, e) ↦ ap (number (Unsigned n)) e ∙ number_low (Unsigned n) x h ∙ sym (ap (λ v. pos (unsigned_abs v)) (number_low (Signed n) x low))
  | inr (high, e) ↦
      let f = pow_pos (n - 1) in
      let l : 0 + 2 ^ n - x < 2 ^ n = omega (arith, f, high) in
      let v : pos x -ℤ pos (2 ^ n) ≡ negsuc (2 ^ n - x - 1) = omega (arith, ints, h) in
      let s : 0 + 2 ^ n - x ≡ suc (2 ^ n - x - 1) = omega (arith, h) in
      ap (number (Unsigned n)) (e ∙ mod_same (0 + 2 ^ n - x) (2 ^ n) l) ∙ number_low (Unsigned n) (0 + 2 ^ n - x) l ∙ ap pos s ∙
      sym (ap (λ u. pos (unsigned_abs u)) (number_high (Signed n) x high ∙ v))
]

pub quotient_le : (a k : ℕ) → a / k ≤ a
quotient_le a zero = omega arith
quotient_le a (suc k) =
    let d = div-add-mod' a (suc k) in
    let e : a / suc k * suc k ≡ a / suc k * k + a / suc k = grind arith in
    omega (arith, d, e)

-- the quotient toward zero, by the quotient of the absolute value
pub quotient_bits : (n x q k : ℕ) → IsType (Signed n) → x < 2 ^ n → pos q ≡ pos (unsigned_abs (number (Signed n) x) / k) →
    number (Signed n) (if nat_eq (x / 2 ^ (n - 1) % 2 ^ 1) 1 then (0 + 2 ^ n - q) % 2 ^ n else q) ≡ int_div (number (Signed n) x) (pos k)
quotient_bits n x q k ok h e = elim (by_sign n x ((0 + 2 ^ n - q) % 2 ^ n) q ok.some h) [
  | inl (low, s) ↦
      let v = number_low (Signed n) x low in
      let a : q ≡ x / k = omega (arith, ints, e ∙ ap (λ u. pos (unsigned_abs u / k)) v) in
      let b : q < 2 ^ (n - 1) = omega (arith, a, quotient_le x k, low) in
      ap (number (Signed n)) s ∙ number_low (Signed n) q b ∙ ap pos a ∙ sym (ap (λ u. int_div u (pos k)) v)
  | inr (high, s) ↦
      let v : number (Signed n) x ≡ negsuc (2 ^ n - x - 1) = number_high (Signed n) x high ∙ (let d : pos x -ℤ pos (2 ^ n) ≡ negsuc (2 ^ n - x - 1) = omega (arith, ints, h) in d) in
      let a : q ≡ suc (2 ^ n - x - 1) / k = omega (arith, ints, e ∙ ap (λ u. pos (unsigned_abs u / k)) v) in
      let f = half n ok.some in
      let b : q ≤ 2 ^ (n - 1) = omega (arith, a, quotient_le (suc (2 ^ n - x - 1)) k, high, f, h) in
      let c : code n (pos q) ≡ q = code_pos n q (omega (arith, b, f, pow_pos (n - 1))) in
      let z : code n (pos 0) ≡ 0 = code_pos n 0 (pow_pos n) in
      let bits : (0 + 2 ^ n - q) % 2 ^ n ≡ code n (pos 0 -ℤ pos q) = sym (code_subtract n (pos 0) (pos q) ∙ ap (λ m. (m + 2 ^ n - code n (pos q)) % 2 ^ n) z ∙ ap (λ m. (0 + 2 ^ n - m) % 2 ^ n) c) in
      let inside : IsIn (Signed n) (pos 0 -ℤ pos q) = record { least = omega (arith, ints, b); greatest = omega (arith, ints, pow_pos (n - 1)) } in
      let minus : pos 0 -ℤ pos q ≡ neg_ℤ (pos q) = omega (arith, ints) in
      ap (number (Signed n)) s ∙ number_is (Signed n) (pos 0 -ℤ pos q) _ ok inside bits ∙ minus ∙ ap (λ m. neg_ℤ (pos m)) a ∙ sym (ap (λ u. int_div u (pos k)) v)
]
