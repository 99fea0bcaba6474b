-- Intervals that are moved on around the end of a side.
use Rattle.std.proofs.Common.{◌≡◌, ◌⊎◌, ℕ, ◌+◌, ◌-◌, ◌*◌, ◌%◌, ◌<◌, ◌≤◌, ◌==◌, Bool, true, false, refl, sym, ap, subst, ◌∙◌, inl, inr, arith}
use Rattle.std.specs.Prelude.{if◌then◌else◌, not, IsTrue}
use Rattle.std.proofs.lemmas.Nat.{mod-mul-add, mod_below}
use Rattle.std.proofs.lemmas.Bool.{cases_lt, cases_eq, eq-eqb, ne_eqb, eqb-true}
use Rattle.wiring.specs.Clock.{bit}
use Rattle.frame_paths.specs.declared.moves.Interval.{Interval}
use Rattle.frame_paths.specs.Moves.{IsIn}
use Rattle.edge_select.specs.Logic.{is_within}
use Rattle.edge_select.specs.Bands.{in_interval}
use Rattle.edge_select.specs.Pixels.{IsBitOf}
use Rattle.edge_select.proofs.Combining.{within_in, in_within, bit_of}

-- a coordinate is between these
pub record Between (first last x : ℕ) : Type 0 where
  pub low : first ≤ x
  pub high : x ≤ last

pub interval_in : (side first last x : ℕ) → x < side → IsTrue (in_interval side first last x) → Between first last x
interval_in side first last x low h =
    elim (cases_eq first last) as (λ _. Between first last x) [
      | inl e ↦
          let t : IsTrue (x == first) = subst (λ (b : Bool). IsTrue (if b then x == first else is_within side first last x)) (eq-eqb first last e) h in
          let is : x ≡ first = eqb-true x first t in
          record { low = omega (arith, is); high = omega (arith, is, e) }
      | inr ne ↦
          let t : IsTrue (is_within side first last x) = subst (λ (b : Bool). IsTrue (if b then x == first else is_within side first last x)) (ne_eqb first last ne) h in
          let is = within_in side (record { first = first; last = last }) x low t in
          record { low = is.first; high = is.last }
    ]

pub in_the_interval : (side first last x : ℕ) → x < side → Between first last x → IsTrue (in_interval side first last x)
in_the_interval side first last x low is =
    elim (cases_eq first last) as (λ _. IsTrue (in_interval side first last x)) [
      | inl e ↦ subst (λ (b : Bool). IsTrue (if b then x == first else is_within side first last x)) (sym (eq-eqb first last e)) (eq-eqb x first (omega (arith, e, is.low, is.high)))
      | inr ne ↦
          subst (λ (b : Bool). IsTrue (if b then x == first else is_within side first last x)) (sym (ne_eqb first last ne))
          (in_within side (record { first = first; last = last }) x low (record { first = is.low; last = is.high }))
    ]

-- the bit of what is not so
bit_of_not : (P : Type 0) (t : Bool) → (IsTrue t → P → ⊥) → ((P → ⊥) → IsTrue t) → (P ⊎ (P → ⊥)) → IsBitOf P (bit (not t))
bit_of_not P true f g either = inr (f refl, refl)
bit_of_not P false f g (inl p) = inl (p, refl)
bit_of_not P false f g (inr none) = absurd (let h : IsTrue false = g none in cc)

-- what a remainder is, up to twice the side
below_side : (x n : ℕ) → x < n → x % n ≡ x
below_side x n lt = (let e : x ≡ 0 * n + x = omega arith in ap (λ (v : ℕ). v % n) e) ∙ mod-mul-add 0 n x lt

over_side : (x n : ℕ) → n ≤ x → x < n + n → x % n ≡ x - n
over_side x n ge lt = (let e : x ≡ 1 * n + (x - n) = omega (arith, ge) in ap (λ (v : ℕ). v % n) e) ∙ mod-mul-add 1 n (x - n) (omega (arith, ge, lt))

module _ (side : ℕ) (i : Interval) (shift x : ℕ) (some : i.first ≤ i.last) (last_low : i.last < side) (shifted : shift < side) (low : x < side) where
  -- the coordinate moved on
  abbrev v : ℕ
  v = (x + shift) % side

  v_low : v < side
  v_low = mod_below (x + shift) side (omega (arith, low))

  v_cases : ((x + shift < side) × (v ≡ x + shift)) ⊎ ((side ≤ x + shift) × (v ≡ x + shift - side))
  v_cases =
      elim (cases_lt (x + shift) side) as (λ _. ((x + shift < side) × (v ≡ x + shift)) ⊎ ((side ≤ x + shift) × (v ≡ x + shift - side))) [
        | inl lt ↦ inl (lt, below_side (x + shift) side lt)
        | inr ge ↦ inr (ge, over_side (x + shift) side ge (omega (arith, low, shifted)))
      ]

  -- whatever v is, it is between these exactly where x is between those
  abbrev Matches : (f l : ℕ) → Type 0
  Matches f l = (Between f l v → IsIn i x) × (IsIn i x → Between f l v)

  plain_bit : (f l : ℕ) → Matches f l → IsBitOf (IsIn i x) (bit (in_interval side f l v))
  plain_bit f l is = bit_of (IsIn i x) (in_interval side f l v) (λ h. is.0 (interval_in side f l v v_low h)) (λ h. in_the_interval side f l v v_low (is.1 h))

  pub along_bit : i.last + shift < side → IsBitOf (IsIn i x) (bit (in_interval side (i.first + shift) (i.last + shift) v))
  along_bit lt =
      plain_bit (i.first + shift) (i.last + shift)
      (elim v_cases as (λ _. Matches (i.first + shift) (i.last + shift)) [
        | inl c ↦ ((λ h. record { first = omega (arith, h.low, c.1); last = omega (arith, h.high, c.1) }), (λ h. record { low = omega (arith, h.first, c.1); high = omega (arith, h.last, c.1) }))
        | inr c ↦ ((λ h. absurd (omega (arith, h.low, c.1, low, shifted))), (λ h. absurd (omega (arith, h.last, c.0, lt))))
      ])

  pub beyond_bit : side ≤ i.first + shift → IsBitOf (IsIn i x) (bit (in_interval side (i.first + shift - side) (i.last + shift - side) v))
  beyond_bit ge =
      plain_bit (i.first + shift - side) (i.last + shift - side)
      (elim v_cases as (λ _. Matches (i.first + shift - side) (i.last + shift - side)) [
        | inl c ↦ ((λ h. absurd (omega (arith, h.high, c.1, last_low, c.0))), (λ h. absurd (omega (arith, h.first, c.0, ge))))
        | inr c ↦ ((λ h. record { first = omega (arith, h.low, c.1, c.0, ge); last = omega (arith, h.high, c.1, c.0, ge, some) }), (λ h. record { low = omega (arith, h.first, c.1, c.0, ge); high = omega (arith, h.last, c.1, c.0, ge) }))
      ])

  -- where it goes on around the end, what is between is outside
  abbrev Misses : (f l : ℕ) → Type 0
  Misses f l = (Between f l v → IsIn i x → ⊥) × ((IsIn i x → ⊥) → Between f l v)

  either : IsIn i x ⊎ (IsIn i x → ⊥)
  either =
      elim (cases_lt x i.first) as (λ _. IsIn i x ⊎ (IsIn i x → ⊥)) [
        | inl lt ↦ inr (λ h. omega (arith, lt, h.first))
        | inr ge ↦ (elim (cases_lt i.last x) as (λ _. IsIn i x ⊎ (IsIn i x → ⊥)) [ inl gt ↦ inr (λ h. omega (arith, gt, h.last)) | inr le ↦ inl (record { first = ge; last = le }) ])
      ]

  not_in : (IsIn i x → ⊥) → (x < i.first) ⊎ (i.last < x)
  not_in none =
      elim (cases_lt x i.first) as (λ _. (x < i.first) ⊎ (i.last < x)) [
        | inl lt ↦ inl lt
        | inr ge ↦ (elim (cases_lt i.last x) as (λ _. (x < i.first) ⊎ (i.last < x)) [ inl gt ↦ inr gt | inr le ↦ absurd (none (record { first = ge; last = le })) ])
      ]

  pub around_bit : i.last + 1 < side + i.first → side ≤ i.last + shift + 1 → i.first + shift < side → IsBitOf (IsIn i x) (bit (not (in_interval side (i.last + shift + 1 - side) (i.first + shift - 1) v)))
  around_bit part ge lt =
      let f : ℕ = i.last + shift + 1 - side in
      let l : ℕ = i.first + shift - 1 in
      let is : Misses f l =
      elim v_cases as (λ _. Misses f l) [
        | inl c ↦ (
          (λ h in_i. omega (arith, part, h.high, c.1, in_i.first, in_i.last, ge, c.0, h.low)),
          (λ none. elim (not_in none) as (λ _. Between f l v) [ inl lo ↦ record { low = omega (arith, c.1, last_low, ge); high = omega (arith, c.1, lo) } | inr hi ↦ absurd (omega (arith, hi, c.0, ge)) ]),
        )
        | inr c ↦ (
          (λ h in_i. omega (arith, h.low, c.1, in_i.last, ge, c.0)),
          (λ none. elim (not_in none) as (λ _. Between f l v) [ inl lo ↦ absurd (omega (arith, lo, c.0, lt)) | inr hi ↦ record { low = omega (arith, c.1, c.0, hi, ge); high = omega (arith, c.1, c.0, low, ge, lt) } ]),
        )
      ] in
      bit_of_not (IsIn i x) (in_interval side f l v) (λ h in_i. is.0 (interval_in side f l v v_low h) in_i) (λ none. in_the_interval side f l v v_low (is.1 none)) either
