-- Laws of saturated numbers.
use Rattle.std.proofs.Common.{◌≡◌, ◌≤◌, ℤ, pos, negsuc, ◌-ℤ◌, ◌≤ℤ◌, ◌<ℤ◌, unsigned_abs, refl, arith, inl, inr, ◌⊎◌}
use Rattle.std.proofs.lemmas.Int.{ints}
use Rattle.dk_base.specs.declared.ty.Ty.{Ty}
use Rattle.dk_base.specs.Types.{IsType, IsIn, least_of, greatest_of}
use Rattle.dk_base.specs.Numbers.{saturate, distance, IsNearest}
use Rattle.dk_base.proofs.Compare.{int_lt_cases, saturate_low, saturate_high, saturate_inside, saturate_in}

size_up : (x : ℤ) → pos 0 ≤ℤ x → pos (unsigned_abs x) ≡ x
size_up (pos n) h = refl
size_up (negsuc n) h = absurd (omega (arith, ints, h))

size_down : (x : ℤ) → x ≤ℤ pos 0 → pos (unsigned_abs x) ≡ pos 0 -ℤ x
size_down (pos n) h = let e : n ≡ 0 = omega (arith, ints, h) in omega (arith, ints, e)
size_down (negsuc n) h = omega (arith, ints)

distance_up : (v w : ℤ) → v ≤ℤ w → pos (distance v w) ≡ w -ℤ v
distance_up v w h = let e : pos (distance v w) ≡ pos 0 -ℤ (v -ℤ w) = size_down (v -ℤ w) (omega (arith, ints, h)) in omega (arith, ints, e)

distance_down : (v w : ℤ) → w ≤ℤ v → pos (distance v w) ≡ v -ℤ w
distance_down v w h = size_up (v -ℤ w) (omega (arith, ints, h))

-- the three places of a number: under the range, above it, and in it
pub record IsPlaced (t : Ty) (v s : ℤ) : Type 0 where
  pub inside : IsIn t s
  pub placed : ((v <ℤ least_of t) × (s ≡ least_of t)) ⊎ (((greatest_of t) <ℤ v) × (s ≡ greatest_of t)) ⊎ (IsIn t v × (s ≡ v))

pub saturate_placed : (t : Ty) (v : ℤ) → IsType t → IsPlaced t v (saturate t v)
saturate_placed t v ok = record {
  inside = saturate_in t v ok;
  placed = elim (int_lt_cases v (least_of t)) [
    | inl (low, e) ↦ inl (low, saturate_low t v e)
    | inr (high, e) ↦ elim (int_lt_cases (greatest_of t) v) [
      | inl (over, f) ↦ inr (inl (over, saturate_high t v e f))
      | inr (under, f) ↦ inr (inr (record { least = omega (arith, ints, high, under); greatest = omega (arith, ints, high, under) }, saturate_inside t v e f))
    ]
  ];
}

nearest_of : (t : Ty) (v s : ℤ) → IsPlaced t v s → (u : ℤ) → IsIn t u → distance v s ≤ distance v u
nearest_of t v s p u h =
    let a = h.least in let b = h.greatest in
    elim p.placed [
      | inl (low, e) ↦
          let x = distance_up v s (omega (arith, ints, low, e)) in
          let y = distance_up v u (omega (arith, ints, low, a)) in
          omega (arith, ints, x, y, e, a)
      | inr (inl (over, e)) ↦
          let x = distance_down v s (omega (arith, ints, over, e)) in
          let y = distance_down v u (omega (arith, ints, over, b)) in
          omega (arith, ints, x, y, e, b)
      | inr (inr (inside, e)) ↦
          let x = distance_up v s (omega (arith, ints, e)) in
          omega (arith, ints, x, e)
    ]

same_of : (t : Ty) (v s w : ℤ) → IsPlaced t v s → IsIn t w → distance v w ≤ distance v s → w ≡ s
same_of t v s w p h near =
    let a = h.least in let b = h.greatest in
    elim p.placed [
      | inl (low, e) ↦
          let x = distance_up v s (omega (arith, ints, low, e)) in
          let y = distance_up v w (omega (arith, ints, low, a)) in
          omega (arith, ints, x, y, e, a, near)
      | inr (inl (over, e)) ↦
          let x = distance_down v s (omega (arith, ints, over, e)) in
          let y = distance_down v w (omega (arith, ints, over, b)) in
          omega (arith, ints, x, y, e, b, near)
      | inr (inr (inside, e)) ↦
          let x = distance_up v s (omega (arith, ints, e)) in
          elim (int_lt_cases v w) [
            | inl (up, f) ↦ let y = distance_up v w (omega (arith, ints, up)) in omega (arith, ints, x, y, e, near)
            | inr (down, f) ↦ let y = distance_down v w down in omega (arith, ints, x, y, e, near)
          ]
    ]

pub saturated_is : (t : Ty) (v : ℤ) → IsType t → IsNearest t v (saturate t v)
saturated_is t v ok = record { inside = saturate_in t v ok; nearest = nearest_of t v _ (saturate_placed t v ok) }

pub saturated_only : (t : Ty) (v w : ℤ) → IsType t → IsNearest t v w → w ≡ saturate t v
saturated_only t v w ok h = same_of t v _ w (saturate_placed t v ok) h.inside (h.nearest (saturate t v) (saturate_in t v ok))

pub saturate_kept : (t : Ty) (v : ℤ) → IsType t → IsIn t v → saturate t v ≡ v
saturate_kept t v ok h =
    let a = h.least in let b = h.greatest in
    elim (saturate_placed t v ok).placed [
      | inl (low, e) ↦ absurd (omega (arith, ints, low, a))
      | inr (inl (over, e)) ↦ absurd (omega (arith, ints, over, b))
      | inr (inr (inside, e)) ↦ e
    ]
