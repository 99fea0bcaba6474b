-- Which of finitely many things hold.
use Rattle.std.proofs.Common.{◌≡◌, ℕ, zero, suc, ◌<◌, ℤ, pos, negsuc, ◌⊎◌, inl, inr, Bool, true, false, refl, ap, subst, arith}
use Rattle.std.specs.Prelude.{IsTrue}
use Rattle.std.proofs.lemmas.Bool.{cases_lt, cases_order}

-- it holds, or it does not
abbrev pub Settled : Type 0 → Type 0
Settled P = P ⊎ (P → ⊥)

pub both : {A B : Type 0} → Settled A → Settled B → Settled (A × B)
both (inl a) (inl b) = inl (a, b)
both (inl a) (inr not) = inr (λ h. not h.1)
both (inr not) b = inr (λ h. not h.0)

pub all_three : {A B C : Type 0} → Settled A → Settled B → Settled C → Settled (A × B × C)
all_three (inl a) (inl b) (inl c) = inl (a, b, c)
all_three (inl a) (inl b) (inr not) = inr (λ h. not h.2)
all_three (inl a) (inr not) c = inr (λ h. not h.1)
all_three (inr not) b c = inr (λ h. not h.0)

pub one_of : {A B : Type 0} → Settled A → Settled B → Settled (A ⊎ B)
one_of (inl a) b = inl (inl a)
one_of (inr not) (inl b) = inl (inr b)
one_of {A = A} {B = B} (inr none) (inr not) = inr neither
  where
    neither : A ⊎ B → ⊥
    neither (inl a) = none a
    neither (inr b) = not b

pub settled_as : {A B : Type 0} → (A → B) → (B → A) → Settled A → Settled B
settled_as there back (inl a) = inl (there a)
settled_as there back (inr not) = inr (λ b. not (back b))

pub same_number : (m n : ℕ) → Settled (m ≡ n)
same_number m n = elim (cases_order m n) [
  | inl same ↦ inl same
  | inr apart ↦ inr (λ same. elim apart [ inl less ↦ omega (arith, less, same) | inr more ↦ omega (arith, more, same) ])
]

pub same_integer : (a b : ℤ) → Settled (a ≡ b)
same_integer (pos m) (pos n) = settled_as (λ e. ap pos e) (λ e. cc) (same_number m n)
same_integer (pos m) (negsuc n) = inr (λ e. cc)
same_integer (negsuc m) (pos n) = inr (λ e. cc)
same_integer (negsuc m) (negsuc n) = settled_as (λ e. ap negsuc e) (λ e. cc) (same_number m n)

pub is_so : (b : Bool) → Settled (IsTrue b)
is_so true = inl refl
is_so false = inr (λ h. cc)

-- the first n numbers, one after another
looked : (n : ℕ) (P : ℕ → Type 0) → ((k : ℕ) → k < n → Settled (P k)) → ((k : ℕ) × (k < n) × P k) ⊎ ((k : ℕ) → k < n → P k → ⊥)
looked zero P settled = inr (λ k lt is. omega (arith, lt))
looked (suc n) P settled = elim (looked n P (λ k lt. settled k (omega (arith, lt)))) [
  | inl found ↦ inl (found.0, (let lt = found.1 in let more : found.0 < suc n = omega (arith, lt) in more), found.2)
  | inr none ↦ elim (settled n (omega arith)) [
    | inl is ↦ inl (n, (let last : n < suc n = omega arith in last), is)
    | inr not ↦ inr (λ k lt is. elim (cases_lt k n) [
      | inl less ↦ none k less is
      | inr most ↦ let same : k ≡ n = omega (arith, lt, most) in not (subst P same is)
    ])
  ]
]

-- whether some number below n has it
pub some_below : (n : ℕ) (P : ℕ → Type 0) → ((k : ℕ) → k < n → Settled (P k)) → Settled ((k : ℕ) × (k < n) × P k)
some_below n P settled = elim (looked n P settled) [ inl found ↦ inl found | inr none ↦ inr (λ found. none found.0 found.1 found.2) ]
