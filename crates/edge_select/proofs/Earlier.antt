-- Coordinates and bands that are one before others.
use Rattle.std.proofs.Common.{◌≡◌, ◌⊎◌, ℕ, suc, ◌+◌, ◌-◌, ◌<◌, ◌≤◌, ◌==◌, Bool, true, false, refl, sym, ap, ◌∙◌, inl, inr, arith}
use Rattle.std.specs.Prelude.{if◌then◌else◌, not, IsTrue}
use Rattle.std.proofs.lemmas.Bool.{cases_lt, cases_eq, eq-eqb, ne_eqb}
use Rattle.dk_base.specs.Frames.{Size, column, row}
use Rattle.net_build.specs.Counters.{after}
use Rattle.net_build.proofs.Clocks.{never}
use Rattle.edge_select.specs.declared.bands.Band.{Band}
use Rattle.edge_select.specs.Bands.{IsBand, in_interval, in_band}
use Rattle.edge_select.proofs.Raster.{goes_to, turns_over, place, followed}
use Rattle.edge_select.proofs.Moving.{Between, interval_in, in_the_interval}

-- what follows a coordinate of a side
abbrev Follows : (side x : ℕ) → Type 0
Follows side x = ((x + 1 < side) × (after true (side - 1) x ≡ x + 1)) ⊎ ((x + 1 ≡ side) × (after true (side - 1) x ≡ 0))

pub after_cases : (side x : ℕ) → x < side → Follows side x
after_cases side x low =
    elim (cases_lt x (side - 1)) as (λ _. Follows side x) [
      | inl lt ↦ inl (omega (arith, lt), goes_to (side - 1) x lt)
      | inr ge ↦ inr (omega (arith, ge, low), turns_over (side - 1) x (omega (arith, ge, low)))
    ]

pub after_one : (side x : ℕ) → 0 < x → x < side → after true (side - 1) (x - 1) ≡ x
after_one side x more low = goes_to (side - 1) (x - 1) (omega (arith, more, low)) ∙ omega (arith, more)

-- only one coordinate is followed by a given one
pub after_is : (side x y start : ℕ) → x < side → y < side → after true (side - 1) y ≡ start → (x == y) ≡ (after true (side - 1) x == start)
after_is side x y start low y_low at =
    elim (cases_eq x y) as (λ _. (x == y) ≡ (after true (side - 1) x == start)) [
      | inl e ↦ eq-eqb x y e ∙ sym (eq-eqb (after true (side - 1) x) start (ap (after true (side - 1)) e ∙ at))
      | inr ne ↦ ne_eqb x y ne ∙ sym (ne_eqb (after true (side - 1) x) start (λ e. ne (one (after_cases side x low) (after_cases side y y_low) (e ∙ sym at))))
    ]
  where
    one : Follows side x → Follows side y → after true (side - 1) x ≡ after true (side - 1) y → x ≡ y
    one (inl c) (inl d) e = omega (arith, c.1, d.1, e)
    one (inl c) (inr d) e = absurd (omega (arith, c.1, d.1, e))
    one (inr c) (inl d) e = absurd (omega (arith, c.1, d.1, e))
    one (inr c) (inr d) e = omega (arith, c.0, d.0)

same_passed : (a b : Bool) → (IsTrue a → IsTrue b) → (IsTrue b → IsTrue a) → a ≡ b
same_passed true true f g = refl
same_passed true false f g = absurd (never (f refl))
same_passed false true f g = absurd (never (g refl))
same_passed false false f g = refl

other_passed : (a b : Bool) → (IsTrue a → IsTrue b → ⊥) → ((IsTrue a → ⊥) → IsTrue b) → a ≡ not b
other_passed true true f g = absurd (f refl refl)
other_passed true false f g = refl
other_passed false true f g = refl
other_passed false false f g = absurd (never (g never))

turned : (o a b : Bool) → a ≡ not b → (if not o then not a else a) ≡ (if o then not b else b)
turned true a b e = e
turned false a b e = ap not e ∙ twice b
  where
    twice : (t : Bool) → not (not t) ≡ t
    twice true = refl
    twice false = refl

module _ (side : ℕ) (band : Band) (x : ℕ) (is : IsBand side band) (low : x < side) where
  -- the next coordinate
  abbrev y : ℕ
  y = after true (side - 1) x

  y_low : y < side
  y_low = elim (after_cases side x low) as (λ _. y < side) [ inl c ↦ omega (arith, c.0, c.1) | inr c ↦ omega (arith, c.0, c.1) ]

  back : 0 < band.first → Between (band.first - 1) (band.last - 1) x → Between band.first band.last y
  back more h =
      elim (after_cases side x low) as (λ _. Between band.first band.last y) [
        | inl c ↦ record { low = omega (arith, h.low, c.1); high = omega (arith, h.high, c.1, more, is.some) }
        | inr c ↦ absurd (omega (arith, h.high, c.0, more, is.some, is.last))
      ]

  forth : 0 < band.first → Between band.first band.last y → Between (band.first - 1) (band.last - 1) x
  forth more h =
      elim (after_cases side x low) as (λ _. Between (band.first - 1) (band.last - 1) x) [
        | inl c ↦ record { low = omega (arith, h.low, c.1); high = omega (arith, h.high, c.1, more, is.some) }
        | inr c ↦ absurd (omega (arith, h.low, c.1, more))
      ]

  pub before_inner : 0 < band.first → in_band side (record { first = band.first - 1; last = band.last - 1; outside = band.outside }) x ≡ in_band side band y
  before_inner more =
      ap (λ (t : Bool). if band.outside then not t else t)
      (same_passed (in_interval side (band.first - 1) (band.last - 1) x) (in_interval side band.first band.last y)
      (λ h. in_the_interval side band.first band.last y y_low (back more (interval_in side (band.first - 1) (band.last - 1) x low h)))
      (λ h. in_the_interval side (band.first - 1) (band.last - 1) x low (forth more (interval_in side band.first band.last y y_low h))))

  pub before_whole : band.first ≡ 0 → band.last + 1 ≡ side → in_band side band x ≡ in_band side band y
  before_whole none full =
      ap (λ (t : Bool). if band.outside then not t else t)
      (same_passed (in_interval side band.first band.last x) (in_interval side band.first band.last y)
      (λ h. in_the_interval side band.first band.last y y_low (record { low = omega (arith, none); high = omega (arith, full, y_low) }))
      (λ h. in_the_interval side band.first band.last x low (record { low = omega (arith, none); high = omega (arith, full, low) })))

  -- all from the last one of the band up to the last but one of the side
  apart : band.first ≡ 0 → band.last + 1 < side → Between band.last (side - 2) x → Between band.first band.last y → ⊥
  apart none part h g =
      elim (after_cases side x low) as (λ _. ⊥) [
        | inl c ↦ omega (arith, h.low, g.high, c.1)
        | inr c ↦ omega (arith, h.high, c.0, part)
      ]

  either : band.first ≡ 0 → band.last + 1 < side → (Between band.last (side - 2) x → ⊥) → Between band.first band.last y
  either none part other =
      elim (after_cases side x low) as (λ _. Between band.first band.last y) [
        | inl c ↦
            elim (cases_lt x band.last) as (λ _. Between band.first band.last y) [
              | inl lt ↦ record { low = omega (arith, none); high = omega (arith, lt, c.1) }
              | inr ge ↦ absurd (other (record { low = ge; high = omega (arith, c.0) }))
            ]
        | inr c ↦ record { low = omega (arith, none); high = omega (arith, c.1) }
      ]

  pub before_around : band.first ≡ 0 → band.last + 1 < side → in_band side (record { first = band.last; last = side - 2; outside = not band.outside }) x ≡ in_band side band y
  before_around none part =
      turned band.outside (in_interval side band.last (side - 2) x) (in_interval side band.first band.last y)
      (other_passed (in_interval side band.last (side - 2) x) (in_interval side band.first band.last y)
      (λ h g. apart none part (interval_in side band.last (side - 2) x low h) (interval_in side band.first band.last y y_low g))
      (λ none_passed. in_the_interval side band.first band.last y y_low (either none part (λ h. none_passed (in_the_interval side band.last (side - 2) x low h)))))

-- whether the first coordinate is in a band
pub first_in : (side : ℕ) (band : Band) → IsBand side band → in_band side band 0 ≡ (if band.outside then not (band.first == 0) else band.first == 0)
first_in side band is =
    let low : 0 < side = omega (arith, is.last) in
    ap (λ (t : Bool). if band.outside then not t else t)
    (elim (cases_lt 0 band.first) as (λ _. in_interval side band.first band.last 0 ≡ (band.first == 0)) [
      | inl more ↦ same_passed (in_interval side band.first band.last 0) (band.first == 0) (λ h. absurd (let g = interval_in side band.first band.last 0 low h in omega (arith, g.low, more))) (λ h. absurd (never (sym (ne_eqb band.first 0 (λ e. omega (arith, e, more))) ∙ h)))
      | inr none ↦ same_passed (in_interval side band.first band.last 0) (band.first == 0) (λ h. eq-eqb band.first 0 (omega (arith, none))) (λ h. in_the_interval side band.first band.last 0 low (record { low = none; high = omega arith }))
    ])

-- the row of the next pixel, where its column is known
pub row_on : (size : Size) (some : 1 ≤ size.width) (tall : 1 ≤ size.height) (start n : ℕ) → after true (size.width - 1) (column size n) ≡ start → (if start == 0 then after true (size.height - 1) (row size n) else row size n) ≡ row size (suc n)
row_on size some tall start n at =
    ap (λ (t : Bool). if t then after true (size.height - 1) (row size n) else row size n) same ∙ (followed size n some tall).at_row
  where
    same : (start == 0) ≡ (column size n == size.width - 1)
    same =
        elim (after_cases size.width (column size n) (place size n some tall).column_below) as (λ _. (start == 0) ≡ (column size n == size.width - 1)) [
          | inl c ↦ ne_eqb start 0 (λ e. omega (arith, c.1, at, e)) ∙ sym (ne_eqb (column size n) (size.width - 1) (λ e. omega (arith, e, c.0)))
          | inr c ↦ eq-eqb start 0 (omega (arith, c.1, at)) ∙ sym (eq-eqb (column size n) (size.width - 1) (omega (arith, c.0)))
        ]
