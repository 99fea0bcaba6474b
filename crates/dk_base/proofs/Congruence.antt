-- Whole numbers that are equal to a natural number modulo m.
use Rattle.std.proofs.Common.{◌≡◌, ℕ, ◌+◌, ◌-◌, ◌*◌, ◌%◌, ◌/◌, ◌^◌, ◌<◌, ◌≤◌, ℤ, pos, negsuc, ◌+ℤ◌, ◌-ℤ◌, unsigned_abs, refl, ◌∙◌, ap, arith}
use Rattle.std.proofs.lemmas.Int.{ints, int_rem_euclid_is}
use Rattle.std.proofs.lemmas.Nat.{div-add-mod', mod_below, pow_pos, mod-mul-add}
use Rattle.dk_base.specs.Numbers.{code}

-- v and n differ by a multiple of m
pub record IsCongruent (m : ℕ) (v : ℤ) (n : ℕ) : Type 0 where
  pub up : ℕ
  pub down : ℕ
  pub is : v +ℤ pos (up * m) ≡ pos (n + down * m)

-- sums of multiples, for `omega`
pub times_sum : (a b m : ℕ) → (a + b) * m ≡ a * m + b * m
times_sum a b m = grind arith

pub mod_multiple : (n k m : ℕ) → 0 < m → (n + k * m) % m ≡ n % m
mod_multiple n k m some =
    let d : n / m * m + n % m ≡ n = div-add-mod' n m in
    let s : (n / m + k) * m ≡ n / m * m + k * m = times_sum (n / m) k m in
    let e : n + k * m ≡ (n / m + k) * m + n % m = omega arith in
    ap (λ x. x % m) e ∙ mod-mul-add (n / m + k) m (n % m) (mod_below n m some)

pub congruent_itself : (m n : ℕ) → IsCongruent m (pos n) n
congruent_itself m n = record { up = 0; down = 0; is = omega (arith, ints) }

pub congruent_add : (m : ℕ) (v w : ℤ) (a b : ℕ) → IsCongruent m v a → IsCongruent m w b → IsCongruent m (v +ℤ w) (a + b)
congruent_add m v w a b p q =
    let u = times_sum p.up q.up m in
    let d = times_sum p.down q.down m in
    let e = p.is in
    let f = q.is in
    record { up = p.up + q.up; down = p.down + q.down; is = omega (arith, ints, u, d, e, f) }

pub congruent_subtract : (m : ℕ) (v w : ℤ) (a b : ℕ) → b ≤ m → IsCongruent m v a → IsCongruent m w b → IsCongruent m (v -ℤ w) (a + m - b)
congruent_subtract m v w a b h p q =
    let u = times_sum p.up q.down m in
    let d = times_sum p.down q.up m in
    let one : (p.up + q.down + 1) * m ≡ (p.up + q.down) * m + m = grind arith in
    let e = p.is in
    let f = q.is in
    record { up = p.up + q.down + 1; down = p.down + q.up; is = omega (arith, ints, u, d, e, f, one) }

-- the bits are the remainder of any congruent natural number
pub code_is : (w : ℕ) (v : ℤ) (n : ℕ) → IsCongruent (2 ^ w) v n → code w v ≡ n % 2 ^ w
unfolding code
code_is w v n p = ap unsigned_abs (int_rem_euclid_is v (pos (2 ^ w)) (2 ^ w) p.up (n + p.down * 2 ^ w) (pow_pos w) refl p.is) ∙ mod_multiple n p.down (2 ^ w) (pow_pos w)

pub code_congruent : (w : ℕ) (v : ℤ) → IsCongruent (2 ^ w) v (code w v)
unfolding code
code_congruent w (pos n) =
    let d : n / 2 ^ w * 2 ^ w + n % 2 ^ w ≡ n = div-add-mod' n (2 ^ w) in
    record { up = 0; down = n / 2 ^ w; is = omega (arith, ints, d) }
code_congruent w (negsuc n) =
    let d : n / 2 ^ w * 2 ^ w + n % 2 ^ w ≡ n = div-add-mod' n (2 ^ w) in
    let b : n % 2 ^ w < 2 ^ w = mod_below n (2 ^ w) (pow_pos w) in
    let one : (n / 2 ^ w + 1) * 2 ^ w ≡ n / 2 ^ w * 2 ^ w + 2 ^ w = grind arith in
    record { up = n / 2 ^ w + 1; down = 0; is = omega (arith, ints, d, b, one) }

pub code_below : (w : ℕ) (v : ℤ) → code w v < 2 ^ w
unfolding code
code_below w (pos n) = mod_below n (2 ^ w) (pow_pos w)
code_below w (negsuc n) = omega (arith, pow_pos w)
