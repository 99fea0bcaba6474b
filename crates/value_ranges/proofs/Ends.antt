-- The ends of intervals.
use Rattle.std.proofs.Common.{◌≡◌, ℕ, suc, ◌*◌, ◌/◌, ◌<◌, ◌≤◌, Bool, true, false, ℤ, pos, negsuc, ◌-ℤ◌, ◌*ℤ◌, ◌≤ℤ◌, unsigned_abs, bit_and, arith, inl, inr, sym, subst}
use Rattle.std.specs.Prelude.{int_div, ◌↔◌, bit_or, bit_xor}
use Rattle.std.specs.Int.{int_min, int_max, int_div_euclid}
use Rattle.std.proofs.lemmas.Int.{ints, clamps}
use Rattle.std.proofs.lemmas.Nat.{le-div, and_le_l, and_le_r, or_lt, xor_lt}
use Rattle.std.proofs.Math.Nat.{div-mul-le_self, mul-le-mul}
use Rattle.std.proofs.Math.IntN.{*ℤ_comm}
use Rattle.dk_base.specs.declared.ty.Ty.{Ty}
use Rattle.dk_base.specs.declared.ty.Ty.TheVariants.{Unsigned, Signed}
use Rattle.dk_base.specs.Types.{IsType, IsIn, is_signed}
use Rattle.dk_base.specs.Numbers.{saturate, wrap}
use Rattle.dk_base.proofs.Codes.{number_code}
use Rattle.dk_base.proofs.Nearest.{saturate_placed}
use Rattle.dk_base.specs.Operators.{truth}
use Rattle.value_ranges.specs.declared.interval.Interval.{Interval}
use Rattle.value_ranges.specs.Intervals.{IsBetween, IsHeldBy, IsLeastType}

-- products with a number that is not below 0 keep the order
scaled : (a v : ℤ) (n : ℕ) → a ≤ℤ v → (a *ℤ pos n) ≤ℤ (v *ℤ pos n)
scaled (pos x) (pos y) n le = let m : x * n ≤ y * n = mul-le-mul (omega (arith, ints, le)) (omega arith) in omega (arith, ints, m)
scaled (negsuc x) (pos y) n le = omega (arith, ints)
scaled (pos x) (negsuc y) n le = absurd (omega (arith, ints, le))
scaled (negsuc x) (negsuc y) n le = let m : suc y * n ≤ suc x * n = mul-le-mul (omega (arith, ints, le)) (omega arith) in omega (arith, ints, m)

-- and those with one below 0 turn it
turned : (a v : ℤ) (n : ℕ) → a ≤ℤ v → (v *ℤ negsuc n) ≤ℤ (a *ℤ negsuc n)
turned (pos x) (pos y) n le = let m : x * suc n ≤ y * suc n = mul-le-mul (omega (arith, ints, le)) (omega arith) in omega (arith, ints, m)
turned (negsuc x) (pos y) n le = omega (arith, ints)
turned (pos x) (negsuc y) n le = absurd (omega (arith, ints, le))
turned (negsuc x) (negsuc y) n le = let m : suc y * suc n ≤ suc x * suc n = mul-le-mul (omega (arith, ints, le)) (omega arith) in omega (arith, ints, m)

-- a product is between those of the ends of one factor
pub left_product : (r : Interval) (a b v u : ℤ) → a ≤ℤ v → v ≤ℤ b → IsBetween r (a *ℤ u) → IsBetween r (b *ℤ u) → IsBetween r (v *ℤ u)
left_product r a b v (pos n) low high one other =
    let p = scaled a v n low in let q = scaled v b n high in
    let l = one.least in let g = other.greatest in
    record { least = omega (arith, ints, p, l); greatest = omega (arith, ints, q, g) }
left_product r a b v (negsuc n) low high one other =
    let p = turned a v n low in let q = turned v b n high in
    let l = other.least in let g = one.greatest in
    record { least = omega (arith, ints, q, l); greatest = omega (arith, ints, p, g) }

pub moved : (r : Interval) (v w : ℤ) → v ≡ w → IsBetween r v → IsBetween r w
moved r v w e h = let P : ℤ → Type 0 = λ x. IsBetween r x in subst P e h

pub right_product : (r : Interval) (a b f v : ℤ) → a ≤ℤ v → v ≤ℤ b → IsBetween r (f *ℤ a) → IsBetween r (f *ℤ b) → IsBetween r (f *ℤ v)
right_product r a b f v low high one other =
    moved r (v *ℤ f) (f *ℤ v) (*ℤ_comm v f)
    (left_product r a b v f low high (moved r (f *ℤ a) (a *ℤ f) (*ℤ_comm f a) one) (moved r (f *ℤ b) (b *ℤ f) (*ℤ_comm f b) other))

pub truth_between : (r : Interval) (is : Bool) → r.least ≡ pos 0 → r.greatest ≡ pos 1 → IsBetween r (truth is)
truth_between r true l g = record { least = omega (arith, ints, l); greatest = omega (arith, ints, g) }
truth_between r false l g = record { least = omega (arith, ints, l); greatest = omega (arith, ints, g) }

pub least_between : (a b r : Interval) (v u : ℤ) → r.least ≡ int_min a.least b.least → r.greatest ≡ int_min a.greatest b.greatest → IsBetween a v → IsBetween b u → IsBetween r (int_min v u)
least_between a b r v u low high is also =
    let l = is.least in let g = is.greatest in let m = also.least in let h = also.greatest in
    record { least = omega (arith, ints, clamps, low, l, m); greatest = omega (arith, ints, clamps, high, g, h) }

pub greatest_between : (a b r : Interval) (v u : ℤ) → r.least ≡ int_max a.least b.least → r.greatest ≡ int_max a.greatest b.greatest → IsBetween a v → IsBetween b u → IsBetween r (int_max v u)
greatest_between a b r v u low high is also =
    let l = is.least in let g = is.greatest in let m = also.least in let h = also.greatest in
    record { least = omega (arith, ints, clamps, low, l, m); greatest = omega (arith, ints, clamps, high, g, h) }

pub common_between : (a b r : Interval) (v u : ℤ) → pos 0 ≤ℤ a.least → pos 0 ≤ℤ b.least → r.least ≡ pos 0 → r.greatest ≡ int_min a.greatest b.greatest → IsBetween a v → IsBetween b u → IsBetween r (pos (bit_and (unsigned_abs v) (unsigned_abs u)))
common_between a b r (pos n) (pos k) some more low high is also =
    let g = is.greatest in let h = also.greatest in let p = and_le_l n k in let q = and_le_r n k in
    record { least = omega (arith, ints, low); greatest = omega (arith, ints, clamps, high, g, h, p, q) }
common_between a b r (negsuc n) u some more low high is also = absurd (let l = is.least in omega (arith, ints, l, some))
common_between a b r (pos n) (negsuc k) some more low high is also = absurd (let l = also.least in omega (arith, ints, l, more))

-- quotients keep the order
divided : (n m k : ℕ) → 0 < k → n ≤ m → n / k ≤ m / k
divided n m k some le = le-div (n / k) m k some (let d = div-mul-le_self n k in omega (arith, d, le))

to_zero : (a v : ℤ) (k : ℕ) → 0 < k → a ≤ℤ v → int_div a (pos k) ≤ℤ int_div v (pos k)
to_zero (pos x) (pos y) k some le = let d = divided x y k some (omega (arith, ints, le)) in omega (arith, ints, d)
to_zero (negsuc x) (pos y) k some le = omega (arith, ints)
to_zero (pos x) (negsuc y) k some le = absurd (omega (arith, ints, le))
to_zero (negsuc x) (negsuc y) k some le = let d = divided (suc y) (suc x) k some (omega (arith, ints, le)) in omega (arith, ints, d)

down : (a v : ℤ) (k : ℕ) → 0 < k → a ≤ℤ v → int_div_euclid a (pos k) ≤ℤ int_div_euclid v (pos k)
down (pos x) (pos y) k some le = let d = divided x y k some (omega (arith, ints, le)) in omega (arith, ints, d)
down (negsuc x) (pos y) k some le = omega (arith, ints)
down (pos x) (negsuc y) k some le = absurd (omega (arith, ints, le))
down (negsuc x) (negsuc y) k some le = let d = divided y x k some (omega (arith, ints, le)) in omega (arith, ints, d)

pub quotient_between : (a r : Interval) (v : ℤ) (k : ℕ) → 0 < k → r.least ≡ int_div a.least (pos k) → r.greatest ≡ int_div a.greatest (pos k) → IsBetween a v → IsBetween r (int_div v (pos k))
quotient_between a r v k some low high is =
    let l = to_zero a.least v k some is.least in let g = to_zero v a.greatest k some is.greatest in
    record { least = omega (arith, ints, low, l); greatest = omega (arith, ints, high, g) }

pub lowered_between : (a r : Interval) (v : ℤ) (k : ℕ) → 0 < k → r.least ≡ int_div_euclid a.least (pos k) → r.greatest ≡ int_div_euclid a.greatest (pos k) → IsBetween a v → IsBetween r (int_div_euclid v (pos k))
lowered_between a r v k some low high is =
    let l = down a.least v k some is.least in let g = down v a.greatest k some is.greatest in
    record { least = omega (arith, ints, low, l); greatest = omega (arith, ints, high, g) }

-- bits of numbers of an unsigned type
or_in : (t : Ty) (v u : ℤ) → is_signed t ≡ false → IsIn t v → IsIn t u → IsIn t (pos (bit_or (unsigned_abs v) (unsigned_abs u)))
or_in (Unsigned n) (pos a) (pos b) e h k = let g = h.greatest in let f = k.greatest in let l = or_lt n a b (omega (arith, ints, g)) (omega (arith, ints, f)) in record { least = omega (arith, ints); greatest = omega (arith, ints, l) }
or_in (Unsigned n) (negsuc a) u e h k = absurd (let l = h.least in omega (arith, ints, l))
or_in (Unsigned n) (pos a) (negsuc b) e h k = absurd (let l = k.least in omega (arith, ints, l))
or_in (Signed n) v u e h k = absurd (let f : ⊥ = cc in f)

xor_in : (t : Ty) (v u : ℤ) → is_signed t ≡ false → IsIn t v → IsIn t u → IsIn t (pos (bit_xor (unsigned_abs v) (unsigned_abs u)))
xor_in (Unsigned n) (pos a) (pos b) e h k = let g = h.greatest in let f = k.greatest in let l = xor_lt n a b (omega (arith, ints, g)) (omega (arith, ints, f)) in record { least = omega (arith, ints); greatest = omega (arith, ints, l) }
xor_in (Unsigned n) (negsuc a) u e h k = absurd (let l = h.least in omega (arith, ints, l))
xor_in (Unsigned n) (pos a) (negsuc b) e h k = absurd (let l = k.least in omega (arith, ints, l))
xor_in (Signed n) v u e h k = absurd (let f : ⊥ = cc in f)

pub or_between : (t : Ty) (a b both r : Interval) (v u : ℤ) → ((w : ℤ) → IsBetween a w → IsBetween both w) → ((w : ℤ) → IsBetween b w → IsBetween both w) → pos 0 ≤ℤ both.least → IsLeastType both t → ((w : ℤ) → IsBetween r w ↔ IsIn t w) →
    IsBetween a v → IsBetween b u → IsBetween r (pos (bit_or (unsigned_abs v) (unsigned_abs u)))
or_between t a b both r v u left right some least all is also = (all _).1 (or_in t v u (least.unsigned some) (least.holds v (left v is)) (least.holds u (right u also)))

pub xor_between : (t : Ty) (a b both r : Interval) (v u : ℤ) → ((w : ℤ) → IsBetween a w → IsBetween both w) → ((w : ℤ) → IsBetween b w → IsBetween both w) → pos 0 ≤ℤ both.least → IsLeastType both t → ((w : ℤ) → IsBetween r w ↔ IsIn t w) →
    IsBetween a v → IsBetween b u → IsBetween r (pos (bit_xor (unsigned_abs v) (unsigned_abs u)))
xor_between t a b both r v u left right some least all is also = (all _).1 (xor_in t v u (least.unsigned some) (least.holds v (left v is)) (least.holds u (right u also)))

-- a saturated number keeps the order
saturate_order : (t : Ty) (a v : ℤ) → IsType t → a ≤ℤ v → saturate t a ≤ℤ saturate t v
saturate_order t a v ok le =
    let p = saturate_placed t a ok in let q = saturate_placed t v ok in
    let pl = p.inside.least in let pg = p.inside.greatest in let ql = q.inside.least in let qg = q.inside.greatest in
    elim p.placed [
      | inl (low, e) ↦ omega (arith, ints, e, ql)
      | inr (inl (over, e)) ↦ elim q.placed [
        | inl (low, f) ↦ absurd (omega (arith, ints, low, over, le, pl, pg))
        | inr (inl (also, f)) ↦ omega (arith, ints, e, f)
        | inr (inr (inside, f)) ↦ absurd (let g = inside.greatest in omega (arith, ints, over, le, g))
      ]
      | inr (inr (within, e)) ↦ elim q.placed [
        | inl (low, f) ↦ absurd (let l = within.least in omega (arith, ints, low, le, l))
        | inr (inl (also, f)) ↦ let g = within.greatest in omega (arith, ints, e, f, g)
        | inr (inr (inside, f)) ↦ omega (arith, ints, e, f, le)
      ]
    ]

pub saturated_between : (t : Ty) (a r : Interval) (v : ℤ) → IsType t → r.least ≡ saturate t a.least → r.greatest ≡ saturate t a.greatest → IsBetween a v → IsBetween r (saturate t v)
saturated_between t a r v ok low high is =
    let l = saturate_order t a.least v ok is.least in let g = saturate_order t v a.greatest ok is.greatest in
    record { least = omega (arith, ints, low, l); greatest = omega (arith, ints, high, g) }

-- a number of the type is its own
pub wrapped_between : (t : Ty) (a : Interval) (v : ℤ) → IsType t → IsHeldBy a t → IsBetween a v → IsBetween a (wrap t v)
wrapped_between t a v ok held is = moved a v (wrap t v) (sym (number_code t v ok (held v is))) is
