-- Laws of wrapped numbers.
use Rattle.std.proofs.Common.{◌≡◌, ℕ, suc, ◌+◌, ◌-◌, ◌*◌, ◌^◌, ◌<◌, ◌≤◌, ℤ, pos, negsuc, ◌+ℤ◌, ◌-ℤ◌, ◌*ℤ◌, ◌≤ℤ◌, ◌<ℤ◌, unsigned_abs, refl, sym, ◌∙◌, ap, arith, inl, inr}
use Rattle.std.specs.Int.{int_rem_euclid}
use Rattle.std.proofs.lemmas.Int.{ints}
use Rattle.std.proofs.lemmas.Bool.{cases_lt}
use Rattle.dk_base.specs.declared.ty.Ty.{Ty}
use Rattle.dk_base.specs.Types.{IsType, width_of, above, greatest_of}
use Rattle.dk_base.specs.Numbers.{code, number, wrap, AreEqualModulo, IsWrapped}
use Rattle.dk_base.proofs.Congruence.{IsCongruent, code_congruent, code_below, times_sum}
use Rattle.dk_base.proofs.Codes.{code_by, number_code, number_in, number_congruent, number_low, number_high}

remainder_abs : (v d : ℤ) → pos (unsigned_abs (int_rem_euclid v d)) ≡ int_rem_euclid v d
remainder_abs (pos a) d = refl
remainder_abs (negsuc a) d = refl

-- the remainder that the code takes
pub bits_are : (t : Ty) (v m r : ℤ) (w : ℕ) → w ≡ width_of t → m ≡ pos (2 ^ w) → r ≡ int_rem_euclid v m → r ≡ pos (code (width_of t) v)
unfolding code
bits_are t v m r w e f g =
    let h : m ≡ pos (2 ^ width_of t) = f ∙ ap (λ k. pos (2 ^ k)) e in
    g ∙ ap (int_rem_euclid v) h ∙ sym (remainder_abs v (pos (2 ^ width_of t)))

pub wrap_low : (t : Ty) (v r : ℤ) → r ≡ pos (code (width_of t) v) → r ≤ℤ greatest_of t → r ≡ wrap t v
wrap_low t v r e h =
    let l : code (width_of t) v < above t = omega (arith, ints, e, h) in
    e ∙ sym (number_low t (code (width_of t) v) l)

pub wrap_high : (t : Ty) (v r : ℤ) → r ≡ pos (code (width_of t) v) → greatest_of t <ℤ r → r -ℤ pos (2 ^ width_of t) ≡ wrap t v
wrap_high t v r e h =
    let l : above t ≤ code (width_of t) v = omega (arith, ints, e, h) in
    ap (λ k. k -ℤ pos (2 ^ width_of t)) e ∙ sym (number_high t (code (width_of t) v) l)

-- a difference of two numbers, times a third
difference_times : (a b m : ℕ) → (pos a -ℤ pos b) *ℤ pos m ≡ pos (a * m) -ℤ pos (b * m)
difference_times a b m = elim (cases_lt a b) [
  | inl low ↦
      let d : pos a -ℤ pos b ≡ negsuc (b - a - 1) = omega (arith, ints, low) in
      let e : b ≡ a + suc (b - a - 1) = omega (arith, low) in
      let f : (a + suc (b - a - 1)) * m ≡ a * m + suc (b - a - 1) * m = grind arith in
      let g : b * m ≡ a * m + suc (b - a - 1) * m = ap (λ k. k * m) e ∙ f in
      ap (λ k. k *ℤ pos m) d ∙ omega (arith, ints, g)
  | inr high ↦
      let d : pos a -ℤ pos b ≡ pos (a - b) = omega (arith, ints, high) in
      let e : a ≡ b + (a - b) = omega (arith, high) in
      let g : a * m ≡ b * m + (a - b) * m = ap (λ k. k * m) e ∙ times_sum b (a - b) m in
      ap (λ k. k *ℤ pos m) d ∙ omega (arith, ints, g)
]

-- two numbers that are congruent to one natural number are equal modulo m
equal_by_congruent : (m : ℕ) (v w : ℤ) (n : ℕ) → IsCongruent m v n → IsCongruent m w n → AreEqualModulo m v w
equal_by_congruent m v w n p q =
    let e = p.is in
    let f = q.is in
    let s = times_sum q.up p.down m in
    let u = times_sum p.up q.down m in
    let d = difference_times (q.up + p.down) (p.up + q.down) m in
    let sum : v ≡ w +ℤ (pos ((q.up + p.down) * m) -ℤ pos ((p.up + q.down) * m)) = omega (arith, ints, e, f, s, u) in
    (pos (q.up + p.down) -ℤ pos (p.up + q.down), sum ∙ ap (λ k. w +ℤ k) (sym d))

-- and what is equal modulo m to a congruent number is congruent
congruent_by_equal : (m : ℕ) (v w k : ℤ) (n : ℕ) → v ≡ w +ℤ (k *ℤ pos m) → IsCongruent m w n → IsCongruent m v n
congruent_by_equal m v w (pos j) n e q =
    let f = q.is in
    let s = times_sum q.down j m in
    record { up = q.up; down = q.down + j; is = omega (arith, ints, e, f, s) }
congruent_by_equal m v w (negsuc j) n e q =
    let f = q.is in
    let s = times_sum q.up (suc j) m in
    record { up = q.up + suc j; down = q.down; is = omega (arith, ints, e, f, s) }

pub wrapped_is : (t : Ty) (v : ℤ) → IsType t → IsWrapped t v (wrap t v)
wrapped_is t v ok = record {
  inside = number_in t _ ok (code_below (width_of t) v);
  equal = equal_by_congruent (2 ^ width_of t) v _ (code (width_of t) v) (code_congruent (width_of t) v) (number_congruent t (code (width_of t) v));
}

pub wrapped_only : (t : Ty) (v w : ℤ) → IsType t → IsWrapped t v w → w ≡ wrap t v
wrapped_only t v w ok h =
    let same : code (width_of t) v ≡ code (width_of t) w =
    code_by (width_of t) v _ (code_below (width_of t) w) (congruent_by_equal (2 ^ width_of t) v w h.equal.0 _ h.equal.1 (code_congruent (width_of t) w)) in
    sym (number_code t w ok h.inside) ∙ ap (number t) (sym same)
