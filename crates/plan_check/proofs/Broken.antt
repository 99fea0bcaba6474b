-- Which line is the first that breaks a rule.
use Rattle.std.proofs.Common.{◌≡◌, ◌<◌, ◌≤◌, ◌+◌, ◌⊎◌, ℕ, zero, suc, List, [], ◌∷◌, ◌++◌, map, refl, subst, arith, inl, inr}
use Rattle.std.specs.List.{range_with_len}
use Rattle.std.proofs.lemmas.Bool.{cases_eq, cases_lt}
use Rattle.plan_check.specs.First.{IsFirst, Misses}
use Rattle.plan_check.specs.Rules.{each, Keeps, Breaks}

pub none_broken : (rs : List (ℕ × Type 0)) (m : ℕ) → Keeps rs → Breaks rs m → ⊥
none_broken [] m k h = h
none_broken (r ∷ rs) m k (inl h) = h.1 k.0
none_broken (r ∷ rs) m k (inr h) = none_broken rs m k.1 h

pub keeps_both : (rs ts : List (ℕ × Type 0)) → Keeps rs → Keeps ts → Keeps (rs ++ ts)
keeps_both [] ts h k = k
keeps_both (r ∷ rs) ts h k = (h.0, keeps_both rs ts h.1 k)

pub keeps_left : (rs ts : List (ℕ × Type 0)) → Keeps (rs ++ ts) → Keeps rs
keeps_left [] ts h = tt
keeps_left (r ∷ rs) ts h = (h.0, keeps_left rs ts h.1)

pub keeps_right : (rs ts : List (ℕ × Type 0)) → Keeps (rs ++ ts) → Keeps ts
keeps_right [] ts h = h
keeps_right (r ∷ rs) ts h = keeps_right rs ts h.1

breaks_left : (rs ts : List (ℕ × Type 0)) (m : ℕ) → Breaks rs m → Breaks (rs ++ ts) m
breaks_left [] ts m h = absurd h
breaks_left (r ∷ rs) ts m (inl h) = inl h
breaks_left (r ∷ rs) ts m (inr h) = inr (breaks_left rs ts m h)

breaks_right : (rs ts : List (ℕ × Type 0)) (m : ℕ) → Breaks ts m → Breaks (rs ++ ts) m
breaks_right [] ts m h = h
breaks_right (r ∷ rs) ts m h = inr (breaks_right rs ts m h)

breaks_split : (rs ts : List (ℕ × Type 0)) (m : ℕ) → Breaks (rs ++ ts) m → Breaks rs m ⊎ Breaks ts m
breaks_split [] ts m h = inr h
breaks_split (r ∷ rs) ts m (inl h) = inl (inl h)
breaks_split (r ∷ rs) ts m (inr h) = elim (breaks_split rs ts m h) [ inl x ↦ inl (inr x) | inr x ↦ inr x ]

-- each of these rules is at line n or after it
abbrev pub From : ℕ → List (ℕ × Type 0) → Type 0
From n [] = Unit {0}
From n (r ∷ rs) = (n ≤ r.0) × From n rs

not_below : (n : ℕ) (rs : List (ℕ × Type 0)) (m : ℕ) → From n rs → m < n → Breaks rs m → ⊥
not_below n [] m f lt h = h
not_below n (r ∷ rs) m f lt (inl h) = absurd (omega (arith, lt, f.0, h.0))
not_below n (r ∷ rs) m f lt (inr h) = not_below n rs m f.1 lt h

pub from_both : (n : ℕ) (rs ts : List (ℕ × Type 0)) → From n rs → From n ts → From n (rs ++ ts)
from_both n [] ts h k = k
from_both n (r ∷ rs) ts h k = (h.0, from_both n rs ts h.1 k)

-- past rules that hold
pub skip : (rs ts : List (ℕ × Type 0)) (n : ℕ) → Keeps rs → IsFirst (Breaks ts) n → IsFirst (Breaks (rs ++ ts)) n
skip rs ts n keeps f = record { is = breaks_right rs ts n f.is; before = λ m lt h. elim (breaks_split rs ts m h) [ inl x ↦ none_broken rs m keeps x | inr x ↦ f.before m lt x ] }

-- before rules at later lines
pub stop : (rs ts : List (ℕ × Type 0)) (n : ℕ) → IsFirst (Breaks rs) n → From n ts → IsFirst (Breaks (rs ++ ts)) n
stop rs ts n f from = record { is = breaks_left rs ts n f.is; before = λ m lt h. elim (breaks_split rs ts m h) [ inl x ↦ f.before m lt x | inr x ↦ not_below n ts m from lt x ] }

-- the first of some rules
pub first_one : (n : ℕ) (P : Type 0) (rs : List (ℕ × Type 0)) → (P → ⊥) → From n rs → IsFirst (Breaks ((n, P) ∷ rs)) n
first_one n P rs not from = record { is = inl (refl, not); before = before } where
  before : (m : ℕ) → m < n → Breaks ((n, P) ∷ rs) m → ⊥
  before m lt (inl h) = absurd (omega (arith, lt, h.0))
  before m lt (inr h) = not_below n rs m from lt h

module _ (line_of : ℕ → ℕ) (P : ℕ → Type 0) where
  abbrev ranged : ℕ → ℕ → List (ℕ × Type 0)
  ranged a c = map (λ k. (line_of k, P k)) (range_with_len a c)

  keeps_ranged : (a c : ℕ) → ((k : ℕ) → a ≤ k → k < a + c → P k) → Keeps (ranged a c)
  keeps_ranged a zero f = tt
  keeps_ranged a (suc c) f = (f a (omega arith) (omega arith), keeps_ranged (a + 1) c (λ k le lt. f k (omega (arith, le)) (omega (arith, lt))))

  ranged_keeps : (a c : ℕ) → Keeps (ranged a c) → (k : ℕ) → a ≤ k → k < a + c → P k
  ranged_keeps a zero h k le lt = absurd (omega (arith, le, lt))
  ranged_keeps a (suc c) h k le lt = elim (cases_eq a k) [ inl e ↦ subst P e h.0 | inr ne ↦ ranged_keeps (a + 1) c h.1 k (omega arith) (omega arith) ]

  breaks_ranged : (a c m : ℕ) → Breaks (ranged a c) m → (k : ℕ) × (a ≤ k) × (k < a + c) × (m ≡ line_of k) × (P k → ⊥)
  breaks_ranged a zero m h = absurd h
  breaks_ranged a (suc c) m (inl h) = (a, omega arith, omega arith, h.0, h.1)
  breaks_ranged a (suc c) m (inr h) = let (k, le, lt, e, not) = breaks_ranged (a + 1) c m h in (k, omega (arith, le), omega (arith, lt), e, not)

  ranged_breaks : (a c k : ℕ) → a ≤ k → k < a + c → (P k → ⊥) → Breaks (ranged a c) (line_of k)
  ranged_breaks a zero k le lt not = absurd (omega (arith, le, lt))
  ranged_breaks a (suc c) k le lt not = elim (cases_eq a k) [ inl e ↦ inl (subst (λ j. line_of k ≡ line_of j) (let f : k ≡ a = omega (arith, e) in f) refl, λ p. not (subst P e p)) | inr ne ↦ inr (ranged_breaks (a + 1) c k (omega arith) (omega arith) not) ]

  from_ranged : (n a c : ℕ) → ((k : ℕ) → a ≤ k → k < a + c → n ≤ line_of k) → From n (ranged a c)
  from_ranged n a zero f = tt
  from_ranged n a (suc c) f = (f a (omega arith) (omega arith), from_ranged n (a + 1) c (λ k le lt. f k (omega (arith, le)) (omega (arith, lt))))

  pub keeps_each : (c : ℕ) → ((k : ℕ) → k < c → P k) → Keeps (each line_of c P)
  keeps_each c f = keeps_ranged 0 c (λ k _ lt. f k (omega (arith, lt)))

  pub each_keeps : (c : ℕ) → Keeps (each line_of c P) → (k : ℕ) → k < c → P k
  each_keeps c h k lt = ranged_keeps 0 c h k (omega arith) (omega (arith, lt))

  pub broken_at : (c m : ℕ) → Breaks (each line_of c P) m → (k : ℕ) × (k < c) × (m ≡ line_of k)
  broken_at c m h = let (k, le, lt, e, not) = breaks_ranged 0 c m h in (k, omega (arith, lt), e)

  pub from_each : (n c : ℕ) → ((k : ℕ) → k < c → n ≤ line_of k) → From n (each line_of c P)
  from_each n c f = from_ranged n 0 c (λ k _ lt. f k (omega (arith, lt)))

  pub first_each : ((j k : ℕ) → j ≤ k → line_of j ≤ line_of k) → (c w : ℕ) → IsFirst (Misses P c) w → IsFirst (Breaks (each line_of c P)) (line_of w)
  first_each up c w f = record { is = ranged_breaks 0 c w (omega arith) (omega (arith, f.is.0)) f.is.1; before = before } where
    before : (m : ℕ) → m < line_of w → Breaks (each line_of c P) m → ⊥
    before m lt h =
        let (k, le, short, e, not) = breaks_ranged 0 c m h in
        elim (cases_lt k w) [
          | inl less ↦ f.before k less (omega (arith, short), not)
          | inr more ↦ let back = up w k (omega (arith, more)) in absurd (omega (arith, lt, e, back))
        ]
