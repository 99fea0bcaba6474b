-- Copies of a number, one above the other.
use Rattle.std.proofs.Common.{◌≡◌, ℕ, zero, suc, ◌+◌, ◌-◌, ◌*◌, ◌^◌, ◌<◌, ◌≤◌, arith, subst, sym}
use Rattle.std.proofs.Math.Pow.{pow_pos}
use Rattle.std.proofs.Math.Nat.{mul-le-mul_left}
use Rattle.wiring.specs.Rights.{repeated}

pub repeated_grows : (n w a : ℕ) → repeated n w a ≤ repeated (suc n) w a
repeated_grows n w a = omega (arith, mul-le-mul_left (repeated n w a) (pow_one w))
  where
    pow_one : (w : ℕ) → 1 ≤ 2 ^ w
    pow_one w = pow_pos w

pub repeated_mono : (k n w a : ℕ) → repeated n w a ≤ repeated (k + n) w a
repeated_mono zero n w a =
    let e : zero + n ≡ n = omega arith in
    subst (λ x. repeated n w a ≤ repeated x w a) (sym e) (omega arith)
repeated_mono (suc k) n w a =
    let e : suc k + n ≡ suc (k + n) = omega arith in
    subst (λ x. repeated n w a ≤ repeated x w a) (sym e) (omega (arith, repeated_mono k n w a, repeated_grows (k + n) w a))

-- one copy more still is no more than all copies
pub repeated_within : (i n w a : ℕ) → i < n → repeated i w a * 2 ^ w + a ≤ repeated n w a
repeated_within i n w a lt =
    let e : (n - suc i) + suc i ≡ n = omega arith in
    let le : repeated (suc i) w a ≤ repeated ((n - suc i) + suc i) w a = repeated_mono (n - suc i) (suc i) w a in
    subst (λ x. repeated (suc i) w a ≤ repeated x w a) e le
