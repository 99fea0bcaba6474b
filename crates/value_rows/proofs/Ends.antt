-- Values brought into the range of a type, in elements of another type.
use Rattle.std.proofs.Common.{◌≡◌, ◌∙◌, ap, sym, subst, ℤ, pos, ℕ, ◌+◌, ◌-◌, ◌<◌, ◌≤◌, ◌^◌, ◌%◌, arith}
use Rattle.std.proofs.lemmas.Int.{ints}
use Rattle.std.proofs.lemmas.Nat.{pow_pos, pow_below}
use Rattle.std.proofs.Math.Pow.{pow_mono}
use Rattle.dk_base.specs.declared.ty.Ty.TheVariants.{Unsigned, Signed}
use Rattle.dk_base.specs.declared.ty.Ty.{Ty}
use Rattle.dk_base.specs.Types.{IsType, IsIn, width_of}
use Rattle.dk_base.specs.Numbers.{code, number, wrap}
use Rattle.dk_base.proofs.Congruence.{code_below}
use Rattle.dk_base.proofs.Codes.{code_narrow, code_number, number_code}

-- A value that stays in a type of no more bits is unchanged.
pub same_wrapped : (t s : Ty) (v : ℤ) → IsType t → width_of t ≤ width_of s → IsIn t v → IsIn t (wrap s v) → wrap s v ≡ v
same_wrapped t s v typed fewer is also =
    let n = width_of t in
    let m = width_of s in
    let same : code m (wrap s v) ≡ code m v = code_number s (code m v) (code_below m v) in
    let low : code n (wrap s v) ≡ code n v = code_narrow n m (wrap s v) fewer ∙ ap (λ k. k % 2 ^ n) same ∙ sym (code_narrow n m v fewer) in
    sym (number_code t (wrap s v) typed also) ∙ ap (number t) low ∙ number_code t v typed is

-- masks and powers of two that a type holds
mask_below : (w n : ℕ) → w ≤ n → 2 ^ w - 1 < 2 ^ n
mask_below w n le =
    let most : 2 ^ w ≤ 2 ^ n = pow_mono le in
    let some = pow_pos w in
    omega (arith, most, some)

pub mask_in : (t : Ty) (w : ℕ) → w < width_of t → IsIn t (pos (2 ^ w - 1))
mask_in (Unsigned n) w lt = let h = mask_below w n (omega (arith, lt)) in record { least = omega (arith, ints); greatest = omega (arith, ints, h) }
mask_in (Signed n) w lt = let h = mask_below w (n - 1) (omega (arith, lt)) in record { least = omega (arith, ints); greatest = omega (arith, ints, h) }

pub power_in : (t : Ty) (e : ℕ) → e + 1 < width_of t → IsIn t (pos (2 ^ e))
power_in (Unsigned n) e lt = let h : 2 ^ e < 2 ^ n = pow_below e n (omega (arith, lt)) in record { least = omega (arith, ints); greatest = omega (arith, ints, h) }
power_in (Signed n) e lt = let h : 2 ^ e < 2 ^ (n - 1) = pow_below e (n - 1) (omega (arith, lt)) in record { least = omega (arith, ints); greatest = omega (arith, ints, h) }

-- what holds of two values holds of what was read of them
pub of_both : (P : ℤ → ℤ → Type 0) (a b x y : ℤ) → a ≡ x → b ≡ y → P x y → P a b
of_both P a b x y e f h = subst (λ (z : ℤ). P z b) (sym e) (subst (P x) (sym f) h)
