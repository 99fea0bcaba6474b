-- The bits of a type's number in narrower and in wider types.
use Rattle.std.proofs.Common.{◌≡◌, ℕ, ◌+◌, ◌-◌, ◌*◌, ◌%◌, ◌^◌, ◌<◌, ◌≤◌, pos, ◌-ℤ◌, sym, ◌∙◌, ap, arith}
use Rattle.std.proofs.Math.Pow.{pow_mono}
use Rattle.std.proofs.lemmas.Int.{ints}
use Rattle.std.proofs.lemmas.Nat.{pow_pos, pow-add}
use Rattle.dk_base.specs.declared.ty.Ty.{Ty}
use Rattle.dk_base.specs.declared.ty.Ty.TheVariants.{Unsigned, Signed}
use Rattle.dk_base.specs.Types.{width_of}
use Rattle.dk_base.specs.Numbers.{code, number}
use Rattle.dk_base.proofs.Congruence.{IsCongruent}
use Rattle.dk_base.proofs.Codes.{code_by, code_pos, code_narrow, code_number, number_low, number_high, half}

pub narrow : (t : Ty) (n m : ℕ) → n < 2 ^ width_of t → m ≤ width_of t → code m (number t n) ≡ n % 2 ^ m
narrow t n m h le = code_narrow m (width_of t) (number t n) le ∙ ap (λ c. c % 2 ^ m) (code_number t n h)

pub wide_unsigned : (w n m : ℕ) → n < 2 ^ w → w ≤ m → code m (number (Unsigned w) n) ≡ n
wide_unsigned w n m h le =
    let p : 2 ^ w ≤ 2 ^ m = pow_mono le in
    ap (code m) (number_low (Unsigned w) n h) ∙ code_pos m n (omega (arith, p))

pub wide_not_negative : (w n m : ℕ) → 1 ≤ w → n < 2 ^ (w - 1) → w ≤ m → code m (number (Signed w) n) ≡ n
wide_not_negative w n m some h le =
    let p : 2 ^ w ≤ 2 ^ m = pow_mono le in
    let q = half w some in
    ap (code m) (number_low (Signed w) n h) ∙ code_pos m n (omega (arith, p, q))

one_less : (a m : ℕ) → 0 < a → (a - 1) * m + m ≡ a * m
one_less a m h =
    let e : a ≡ (a - 1) + 1 = omega arith in
    let d : ((a - 1) + 1) * m ≡ (a - 1) * m + m = grind arith in
    sym (ap (λ x. x * m) e ∙ d)

pub wide_negative : (w n k : ℕ) → 1 ≤ w → 2 ^ (w - 1) ≤ n → n < 2 ^ w → code (k + w) (number (Signed w) n) ≡ (2 ^ k - 1) * 2 ^ w + n
wide_negative w n k some high h =
    let p : 2 ^ (k + w) ≡ 2 ^ k * 2 ^ w = pow-add 2 k w in
    let s : 0 < 2 ^ k = pow_pos k in
    let d : (2 ^ k - 1) * 2 ^ w + 2 ^ w ≡ 2 ^ k * 2 ^ w = one_less (2 ^ k) (2 ^ w) s in
    let b : (2 ^ k - 1) * 2 ^ w + n < 2 ^ (k + w) = omega (arith, p, d) in
    let c : IsCongruent (2 ^ (k + w)) (pos n -ℤ pos (2 ^ w)) ((2 ^ k - 1) * 2 ^ w + n) = record { up = 1; down = 0; is = omega (arith, ints, p, d) } in
    ap (code (k + w)) (number_high (Signed w) n high) ∙ code_by (k + w) (pos n -ℤ pos (2 ^ w)) ((2 ^ k - 1) * 2 ^ w + n) b c
