-- Intervals by their ends.
use Rattle.std.specs.Int.{int_min, int_max}
use Rattle.std.proofs.Common.{◌-ℤ◌, ◌*ℤ◌, ◌⊎◌, ◌≡◌, ℕ, ◌^◌, Bool, true, false, ℤ, pos, negsuc, ◌≤ℤ◌, ◌<ℤ◌, ◌<◌, ◌&&◌, Some, None, arith, refl, inl, inr, sym, subst}
use Rattle.std.specs.Prelude.{if◌then◌else◌, Option, not, neg_ℤ, int_lt, FitsSigned}
use Rattle.std.proofs.lemmas.Int.{ints, clamps}
use mir.Syntax.{w128}
use Rattle.dk_base.proofs.Compare.{int_lt_cases}
use Rattle.value_ranges.specs.declared.interval.Interval.{Interval}
use Rattle.value_ranges.specs.Ranges.{fits, spanning, multiples_by, products, differences_from, magnitudes}

-- numbers of 128 bits
in_bounds : (v : ℤ) → FitsSigned w128 v → (neg_ℤ (pos (2 ^ 127)) ≤ℤ v) × (v <ℤ pos (2 ^ 127))
in_bounds (pos n) f = let s : n < 2 ^ 127 = f.sfits in (omega (arith, ints), omega (arith, ints, s))
in_bounds (negsuc n) f = let s : n < 2 ^ 127 = f.sfits in (omega (arith, ints, s), omega (arith, ints))

by_bounds : (v : ℤ) → neg_ℤ (pos (2 ^ 127)) ≤ℤ v → v <ℤ pos (2 ^ 127) → FitsSigned w128 v
by_bounds (pos n) low high = record { sfits = let s : n < 2 ^ 127 = omega (arith, ints, high) in s }
by_bounds (negsuc n) low high = record { sfits = let s : n < 2 ^ 127 = omega (arith, ints, low) in s }

-- the test by its parts
passed : (low high : Bool) → low ≡ false → high ≡ true → (not low && high) ≡ true
passed low high e f = cc

failed_low : (low high : Bool) → low ≡ true → (not low && high) ≡ false
failed_low low high e = cc

failed_high : (low high : Bool) → high ≡ false → (not low && high) ≡ false
failed_high true high e = refl
failed_high false high e = cc

fits_yes : (v : ℤ) → FitsSigned w128 v → fits v ≡ true
unfolding fits
fits_yes v f =
    let b = in_bounds v f in
    let low = b.0 in let high = b.1 in
    elim (int_lt_cases v (neg_ℤ (pos (2 ^ 127)))) [
      | inl (lt, is) ↦ absurd (omega (arith, ints, low, lt))
      | inr (ge, is) ↦ elim (int_lt_cases v (pos (2 ^ 127))) [
        | inl (lt, also) ↦ passed (int_lt v (neg_ℤ (pos (2 ^ 127)))) (int_lt v (pos (2 ^ 127))) is also
        | inr (over, also) ↦ absurd (omega (arith, ints, high, over))
      ]
    ]

fits_no : (v : ℤ) → (FitsSigned w128 v → ⊥) → fits v ≡ false
unfolding fits
fits_no v over = elim (int_lt_cases v (neg_ℤ (pos (2 ^ 127)))) [
  | inl (lt, is) ↦ failed_low (int_lt v (neg_ℤ (pos (2 ^ 127)))) (int_lt v (pos (2 ^ 127))) is
  | inr (ge, is) ↦ elim (int_lt_cases v (pos (2 ^ 127))) [
    | inl (lt, also) ↦ absurd (over (by_bounds v ge lt))
    | inr (far, also) ↦ failed_high (int_lt v (neg_ℤ (pos (2 ^ 127)))) (int_lt v (pos (2 ^ 127))) also
  ]
]

both : (s : Option Interval) (a b : Bool) → b ≡ false → None ≡ (if a && b then s else None)
both s true b e = cc
both s false b e = refl

chosen : (s : Option Interval) (a b : Bool) → a ≡ true → b ≡ true → s ≡ (if a && b then s else None)
chosen s a b e f = cc

spans : (r : Interval) → fits r.least ≡ true → fits r.greatest ≡ true → Some r ≡ spanning r.least r.greatest
spans r a b = chosen (Some r) (fits r.least) (fits r.greatest) a b

pub span_some : (l g : ℤ) (r : Interval) → FitsSigned w128 l → FitsSigned w128 g → r.least ≡ l → r.greatest ≡ g → Some r ≡ spanning l g
span_some l g r f h e k =
    let P : ℤ → Type 0 = λ v. Some r ≡ spanning v g in
    let Q : ℤ → Type 0 = λ v. Some r ≡ spanning r.least v in
    let F : ℤ → Type 0 = λ v. fits v ≡ true in
    subst P e (subst Q k (spans r (subst F (sym e) (fits_yes l f)) (subst F (sym k) (fits_yes g h))))

pub span_low : (l g : ℤ) → (FitsSigned w128 l → ⊥) → None ≡ spanning l g
span_low l g over = let a = fits_no l over in cc

pub span_high : (l g : ℤ) → (FitsSigned w128 g → ⊥) → None ≡ spanning l g
span_high l g over = both (Some (record { least = l; greatest = g })) (fits l) (fits g) (fits_no g over)

known : (v : ℤ) → FitsSigned w128 v ⊎ (FitsSigned w128 v → ⊥)
known v = elim (int_lt_cases v (neg_ℤ (pos (2 ^ 127)))) [
  | inl (lt, is) ↦ inr (λ f. let b = in_bounds v f in let low = b.0 in omega (arith, ints, low, lt))
  | inr (ge, is) ↦ elim (int_lt_cases v (pos (2 ^ 127))) [
    | inl (lt, also) ↦ inl (by_bounds v ge lt)
    | inr (far, also) ↦ inr (λ f. let b = in_bounds v f in let high = b.1 in omega (arith, ints, high, far))
  ]
]

pub span_none : (l g : ℤ) → (FitsSigned w128 l → FitsSigned w128 g → ⊥) → None ≡ spanning l g
span_none l g over = elim (known l) [
  | inl low ↦ span_high l g (λ high. over low high)
  | inr far ↦ span_low l g far
]

pub span_not : (l g : ℤ) → None ≡ spanning l g → FitsSigned w128 l → FitsSigned w128 g → ⊥
span_not l g none f h =
    let r : Interval = record { least = l; greatest = g } in
    let some : Some r ≡ spanning l g = span_some l g r f h refl refl in
    absurd (let f : ⊥ = cc in f)

-- what an interval of these ends is
pub record IsSpan (l g : ℤ) (r : Interval) : Type 0 where
  pub low : FitsSigned w128 l
  pub high : FitsSigned w128 g
  pub least : r.least ≡ l
  pub greatest : r.greatest ≡ g

pub span_is : (l g : ℤ) (r : Interval) → Some r ≡ spanning l g → IsSpan l g r
span_is l g r some = elim (known l) [
  | inl low ↦ elim (known g) [
    | inl high ↦
        let s : Interval = record { least = l; greatest = g } in
        let also : Some s ≡ spanning l g = span_some l g s low high refl refl in
        let same : s ≡ r = cc in
        subst (λ (q : Interval). IsSpan l g q) same (record { low = low; high = high; least = refl; greatest = refl })
    | inr far ↦ absurd (let none : None ≡ spanning l g = span_high l g far in let f : ⊥ = cc in f)
  ]
  | inr far ↦ absurd (let none : None ≡ spanning l g = span_low l g far in let f : ⊥ = cc in f)
]

-- the least and the greatest one of two numbers
least_fits : (x y : ℤ) → FitsSigned w128 x → FitsSigned w128 y → FitsSigned w128 (int_min x y)
least_fits x y f h =
    let a = in_bounds x f in let b = in_bounds y h in let p = a.0 in let q = a.1 in let u = b.0 in let v = b.1 in
    by_bounds (int_min x y) (omega (arith, ints, clamps, p, q, u, v)) (omega (arith, ints, clamps, p, q, u, v))

greatest_fits : (x y : ℤ) → FitsSigned w128 x → FitsSigned w128 y → FitsSigned w128 (int_max x y)
greatest_fits x y f h =
    let a = in_bounds x f in let b = in_bounds y h in let p = a.0 in let q = a.1 in let u = b.0 in let v = b.1 in
    by_bounds (int_max x y) (omega (arith, ints, clamps, p, q, u, v)) (omega (arith, ints, clamps, p, q, u, v))

amid : (l g v : ℤ) → FitsSigned w128 l → FitsSigned w128 g → l ≤ℤ v → v ≤ℤ g → FitsSigned w128 v
amid l g v f h low high =
    let a = in_bounds l f in let b = in_bounds g h in let p = a.0 in let q = b.1 in
    by_bounds v (omega (arith, ints, p, low)) (omega (arith, ints, q, high))

pub pair_some : (x y : ℤ) (r : Interval) → FitsSigned w128 x → FitsSigned w128 y → r.least ≡ int_min x y → r.greatest ≡ int_max x y → Some r ≡ spanning (int_min x y) (int_max x y)
pair_some x y r f h e k = span_some (int_min x y) (int_max x y) r (least_fits x y f h) (greatest_fits x y f h) e k

pub pair_none : (x y : ℤ) → (FitsSigned w128 x → FitsSigned w128 y → ⊥) → None ≡ spanning (int_min x y) (int_max x y)
pair_none x y over = span_none (int_min x y) (int_max x y)
    (λ f h. over (amid (int_min x y) (int_max x y) x f h (omega (arith, ints, clamps)) (omega (arith, ints, clamps))) (amid (int_min x y) (int_max x y) y f h (omega (arith, ints, clamps)) (omega (arith, ints, clamps))))

pub pair_none_first : (x y : ℤ) → (FitsSigned w128 x → ⊥) → None ≡ spanning (int_min x y) (int_max x y)
pair_none_first x y far = pair_none x y (λ f h. far f)

pub pair_none_last : (x y : ℤ) → (FitsSigned w128 y → ⊥) → None ≡ spanning (int_min x y) (int_max x y)
pair_none_last x y far = pair_none x y (λ f h. far h)

-- the products of ends
pub products_none_first : (a b : Interval) → None ≡ multiples_by a.least b → None ≡ products a b
products_none_first a b none = wider (a.least *ℤ b.least) (a.least *ℤ b.greatest) (a.greatest *ℤ b.least) (a.greatest *ℤ b.greatest) none
  where
    wider : (p q s t : ℤ) → None ≡ spanning (int_min p q) (int_max p q) → None ≡ spanning (int_min (int_min p q) (int_min s t)) (int_max (int_max p q) (int_max s t))
    wider p q s t none = span_none _ _ (λ f h. span_not (int_min p q) (int_max p q) none
        (amid _ _ (int_min p q) f h (omega (arith, ints, clamps)) (omega (arith, ints, clamps)))
        (amid _ _ (int_max p q) f h (omega (arith, ints, clamps)) (omega (arith, ints, clamps))))

pub products_none_last : (a b : Interval) → None ≡ multiples_by a.greatest b → None ≡ products a b
products_none_last a b none = wider (a.least *ℤ b.least) (a.least *ℤ b.greatest) (a.greatest *ℤ b.least) (a.greatest *ℤ b.greatest) none
  where
    wider : (p q s t : ℤ) → None ≡ spanning (int_min s t) (int_max s t) → None ≡ spanning (int_min (int_min p q) (int_min s t)) (int_max (int_max p q) (int_max s t))
    wider p q s t none = span_none _ _ (λ f h. span_not (int_min s t) (int_max s t) none
        (amid _ _ (int_min s t) f h (omega (arith, ints, clamps)) (omega (arith, ints, clamps)))
        (amid _ _ (int_max s t) f h (omega (arith, ints, clamps)) (omega (arith, ints, clamps))))

pub products_some : (a b one other r : Interval) → Some one ≡ multiples_by a.least b → Some other ≡ multiples_by a.greatest b → r.least ≡ int_min one.least other.least → r.greatest ≡ int_max one.greatest other.greatest → Some r ≡ products a b
products_some a b one other r first last low high = joined (a.least *ℤ b.least) (a.least *ℤ b.greatest) (a.greatest *ℤ b.least) (a.greatest *ℤ b.greatest) (span_is _ _ one first) (span_is _ _ other last)
  where
    joined : (p q s t : ℤ) → IsSpan (int_min p q) (int_max p q) one → IsSpan (int_min s t) (int_max s t) other → Some r ≡ spanning (int_min (int_min p q) (int_min s t)) (int_max (int_max p q) (int_max s t))
    joined p q s t f h =
        let a = f.least in let b = f.greatest in let c = h.least in let d = h.greatest in
        span_some _ _ r (least_fits (int_min p q) (int_min s t) f.low h.low) (greatest_fits (int_max p q) (int_max s t) f.high h.high)
        (let e : r.least ≡ int_min (int_min p q) (int_min s t) = cc in e) (let e : r.greatest ≡ int_max (int_max p q) (int_max s t) = cc in e)

-- absolute values
opposite_fits : (v : ℤ) → pos 0 <ℤ v → FitsSigned w128 v → FitsSigned w128 (pos 0 -ℤ v)
opposite_fits v some f = let a = in_bounds v f in let q = a.1 in by_bounds (pos 0 -ℤ v) (omega (arith, ints, q)) (omega (arith, ints, some))

pub magnitudes_none : (a : Interval) → FitsSigned w128 a.greatest → a.least <ℤ pos 0 → None ≡ differences_from (pos 0) a → None ≡ magnitudes a
magnitudes_none a fit low none = elim (int_lt_cases a.least (pos 0)) [
  | inl (lt, is) ↦ elim (int_lt_cases (pos 0) a.greatest) [
    | inl (above, also) ↦
        let over : None ≡ spanning (pos 0) (int_max a.greatest (pos 0 -ℤ a.least)) = span_none _ _ (λ f h. span_not (pos 0 -ℤ a.greatest) (pos 0 -ℤ a.least) none (opposite_fits a.greatest above fit)
        (amid (pos 0) (int_max a.greatest (pos 0 -ℤ a.least)) (pos 0 -ℤ a.least) f h (omega (arith, ints, lt)) (omega (arith, ints, clamps)))) in
        cc
    | inr (most, also) ↦ cc
  ]
  | inr (ge, is) ↦ absurd (omega (arith, ints, low, ge))
]

pub magnitudes_both : (a negated r : Interval) → FitsSigned w128 a.greatest → a.least <ℤ pos 0 → pos 0 <ℤ a.greatest → Some negated ≡ differences_from (pos 0) a → r.least ≡ pos 0 → r.greatest ≡ int_max a.greatest negated.greatest → Some r ≡ magnitudes a
magnitudes_both a negated r fit low above some e k = elim (int_lt_cases a.least (pos 0)) [
  | inl (lt, is) ↦ elim (int_lt_cases (pos 0) a.greatest) [
    | inl (more, also) ↦
        let s = span_is (pos 0 -ℤ a.greatest) (pos 0 -ℤ a.least) negated some in
        let g = s.greatest in
        let same : r.greatest ≡ int_max a.greatest (pos 0 -ℤ a.least) = cc in
        let zero : FitsSigned w128 (pos 0) = by_bounds (pos 0) (omega (arith, ints)) (omega (arith, ints)) in
        let whole : Some r ≡ spanning (pos 0) (int_max a.greatest (pos 0 -ℤ a.least)) = span_some _ _ r zero (greatest_fits a.greatest (pos 0 -ℤ a.least) fit s.high) e same in
        cc
    | inr (most, also) ↦ absurd (omega (arith, ints, above, most))
  ]
  | inr (ge, is) ↦ absurd (omega (arith, ints, low, ge))
]
