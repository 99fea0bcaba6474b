-- The tests of the order of live reads and of flow lines decide it.
use Rattle.std.proofs.Common.{◌≡◌, ◌<◌, ◌≤◌, ◌⊎◌, inl, inr, ℕ, ℤ, Bool, arith}
use Rattle.std.specs.Prelude.{◌<ℤ◌, ◌≤ℤ◌, ◌&&◌, ◌||◌, nat_lt, nat_eq, int_lt}
use Rattle.std.specs.Bool.{Decides}
use Rattle.std.specs.Ordering.{int_eq}
use Rattle.std.proofs.lemmas.Int.{ints}
use Rattle.std.proofs.lemmas.Bool.{cases_lt}
use Rattle.std.proofs.lemmas.Bool.Decides.{Decides-ltb, Decides-eqb, Decides-int_eq, Decides-and, Decides-or, Decides-like, same_from_decides}
use Rattle.dk_base.specs.declared.stencils.LiveRead.{LiveRead}
use Rattle.dk_base.specs.Stencils.{IsBefore}
use Rattle.dk_base.proofs.Compare.{int_lt_cases}
use Rattle.report_text.specs.declared.report.FlowLine.{FlowLine}
use Rattle.report_text.specs.Reports.{kind, read_named, StandsBefore}
use Rattle.report_text.specs.Reading.{is_read_before, is_before}

Decides-int_lt : (a b : ℤ) → Decides (int_lt a b) (a <ℤ b)
Decides-int_lt a b = elim (int_lt_cases a b) [
  | inl h ↦ ((λ _. h.0), (λ _. h.1))
  | inr h ↦ ((λ t. absurd (let e : ⊥ = cc (h.1, t) in e)), (λ lt. absurd (let le = h.0 in omega (arith, ints, le, lt))))
]

-- what is less, or the same and then so
module _ (P : Type 0) (t : Bool) (then : Decides t P) where
  nat_first : (a b : ℕ) → Decides (nat_lt a b || (nat_eq a b && t)) ((a ≤ b) × (a ≡ b → P))
  nat_first a b = Decides-like (nat_lt a b || (nat_eq a b && t)) up down (Decides-or (nat_lt a b) (nat_eq a b && t) (Decides-ltb a b) (Decides-and (nat_eq a b) t (Decides-eqb a b) then))
    where
      up : (a < b) ⊎ ((a ≡ b) × P) → (a ≤ b) × (a ≡ b → P)
      up (inl lt) = (omega (arith, lt), λ e. absurd (omega (arith, lt, e)))
      up (inr (e, p)) = (omega (arith, e), λ _. p)

      down : (a ≤ b) × (a ≡ b → P) → (a < b) ⊎ ((a ≡ b) × P)
      down (le, p) = elim (cases_lt a b) [ inl lt ↦ inl lt | inr more ↦ let e : a ≡ b = omega (arith, le, more) in inr (e, p e) ]

  int_first : (a b : ℤ) → Decides (int_lt a b || (int_eq a b && t)) ((a ≤ℤ b) × (a ≡ b → P))
  int_first a b = Decides-like (int_lt a b || (int_eq a b && t)) up down (Decides-or (int_lt a b) (int_eq a b && t) (Decides-int_lt a b) (Decides-and (int_eq a b) t (Decides-int_eq a b) then))
    where
      up : (a <ℤ b) ⊎ ((a ≡ b) × P) → (a ≤ℤ b) × (a ≡ b → P)
      up (inl lt) = (omega (arith, ints, lt), λ e. absurd (omega (arith, ints, lt, e)))
      up (inr (e, p)) = (omega (arith, ints, e), λ _. p)

      down : (a ≤ℤ b) × (a ≡ b → P) → (a <ℤ b) ⊎ ((a ≡ b) × P)
      down (le, p) = elim (int_lt_cases a b) [ inl h ↦ inl h.0 | inr h ↦ let more = h.0 in let e : a ≡ b = omega (arith, ints, le, more) in inr (e, p e) ]

Decides-read : (a b : LiveRead) → Decides (is_read_before a b) (IsBefore a b)
Decides-read a b =
    Decides-like (is_read_before a b)
    (λ h. record { reader = h.0; source = λ f. (h.1 f).0; rows = λ f g. ((h.1 f).1 g).0; columns = λ f g y. ((h.1 f).1 g).1 y })
    (λ h. (h.reader, λ f. (h.source f, λ g. (h.rows f g, λ y. h.columns f g y))))
    (nat_first _ _ (nat_first _ _ (int_first _ _ (Decides-int_lt a.dx b.dx) a.dy b.dy) a.g b.g) a.f b.f)

pub Decides-line : (a b : FlowLine) → Decides (is_before a b) (StandsBefore a b)
Decides-line a b =
    Decides-like (is_before a b)
    (λ h. record { kinds = h.0; reads = h.1 })
    (λ h. (h.kinds, h.reads))
    (nat_first _ _ (Decides-read (read_named a) (read_named b)) (kind a) (kind b))

-- a test that decides the order is this one
pub is_the_test : (a b : FlowLine) (t : Bool) → Decides t (StandsBefore a b) → t ≡ is_before a b
is_the_test a b t h = same_from_decides t (is_before a b) h (Decides-line a b)
