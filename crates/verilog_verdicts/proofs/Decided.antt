-- What holds or does not.
use Rattle.std.proofs.Common.{◌≡◌, ◌⊎◌, inl, inr, ℕ, zero, suc, ◌<◌, ◌≤◌, List, [], ◌∷◌, Option, Some, None, true, false, refl, ap, sym, subst, ◌∙◌, arith}
use Rattle.std.specs.Prelude.{All, Contains, slice_get, IsSome}
use Rattle.std.specs.List.{AllZip}
use Rattle.std.proofs.lemmas.Bool.{cases_lt}
use Rattle.std.proofs.lemmas.Option.{same_Some}
use Rattle.std.proofs.lemmas.List.Elements.{All-nil, All-cons, All-head, All-tail}

abbrev pub Decided : Type 0 → Type 0
Decided P = P ⊎ (P → ⊥)

pub both : {P Q : Type 0} → Decided P → Decided Q → Decided (P × Q)
both (inl p) (inl q) = inl (p, q)
both (inl p) (inr n) = inr (λ h. n h.1)
both (inr n) d = inr (λ h. n h.0)

pub either : {P Q : Type 0} → Decided P → Decided Q → Decided (P ⊎ Q)
either (inl p) d = inl (inl p)
either (inr n) (inl q) = inl (inr q)
either (inr n) (inr m) = inr (neither n m)
  where
    neither : {P Q : Type 0} → (P → ⊥) → (Q → ⊥) → P ⊎ Q → ⊥
    neither n m (inl p) = n p
    neither n m (inr q) = m q

-- what holds exactly where something decided does
pub like : {P Q : Type 0} → (P → Q) → (Q → P) → Decided P → Decided Q
like to from (inl p) = inl (to p)
like to from (inr n) = inr (λ q. n (from q))

pub less : (m n : ℕ) → Decided (m < n)
less m n = elim (cases_lt m n) [ inl l ↦ inl l | inr h ↦ inr (λ l. omega (arith, l, h)) ]

pub at_most : (m n : ℕ) → Decided (m ≤ n)
at_most m n = elim (cases_lt n m) [ inl l ↦ inr (λ h. omega (arith, l, h)) | inr h ↦ inl h ]

-- some number below n
pub some_below : (P : ℕ → Type 0) → ((k : ℕ) → Decided (P k)) → (n : ℕ) → Decided ((k : ℕ) × (k < n) × P k)
some_below P d zero = inr (λ h. let l = h.1 in omega (arith, l))
some_below P d (suc n) = by (d n) (some_below P d n)
  where
    before : (k : ℕ) → k < suc n → P k → (P n → ⊥) → k < n
    before k l p fails = elim (cases_lt k n) [ inl low ↦ low | inr high ↦ absurd (fails (subst P (let e : k ≡ n = omega (arith, l, high) in e) p)) ]

    by : Decided (P n) → Decided ((k : ℕ) × (k < n) × P k) → Decided ((k : ℕ) × (k < suc n) × P k)
    by (inl p) below = inl (n, omega arith, p)
    by (inr fails) (inl h) = inl (h.0, (let l = h.1 in omega (arith, l)), h.2)
    by (inr fails) (inr none) = inr (λ h. none (h.0, before h.0 h.1 h.2 fails, h.2))

-- each item of a list
pub all_of : {X : Type 0} (P : X → Type 0) → ((x : X) → Decided (P x)) → (xs : List X) → Decided (All P xs)
all_of P d [] = inl (All-nil P)
all_of P d (x ∷ xs) = by (d x) (all_of P d xs)
  where
    by : Decided (P x) → Decided (All P xs) → Decided (All P (x ∷ xs))
    by (inl p) (inl q) = inl (All-cons P x xs p q)
    by (inl p) (inr n) = inr (λ a. n (All-tail P x xs a))
    by (inr n) rest = inr (λ a. n (All-head P x xs a))

-- the items of two lists, place by place
pub all_zip : {X Y : Type 0} (R : X → Y → Type 0) → ((x : X) (y : Y) → Decided (R x y)) → (xs : List X) (ys : List Y) → Decided (AllZip R xs ys)
all_zip R d [] [] = inl tt
all_zip R d [] (y ∷ ys) = inr (λ h. h)
all_zip R d (x ∷ xs) [] = inr (λ h. h)
all_zip R d (x ∷ xs) (y ∷ ys) = both (d x y) (all_zip R d xs ys)

pub contains : {X : Type 0} → ((a b : X) → Decided (a ≡ b)) → (xs : List X) (x : X) → Decided (Contains xs x)
contains d [] x = inr (λ h. let l = h.1 in omega (arith, l))
contains d (y ∷ xs) x = by (d y x) (contains d xs x)
  where
    none : (y ≡ x → ⊥) → (Contains xs x → ⊥) → Contains (y ∷ xs) x → ⊥
    none n m (zero, l, e) = n e
    none n m (suc k, l, e) = m (k, omega (arith, l), e)

    by : Decided (y ≡ x) → Decided (Contains xs x) → Decided (Contains (y ∷ xs) x)
    by (inl e) rest = inl (0, omega arith, e)
    by (inr n) (inl h) = inl (suc h.0, (let l = h.1 in omega (arith, l)), h.2)
    by (inr n) (inr m) = inr (none n m)

pub is_some : {X : Type 0} (o : Option X) → Decided (IsSome o)
is_some None = inr (λ e. let f : false ≡ true = e in cc)
is_some (Some x) = inl refl

-- the value of an option
pub some_value : {X : Type 0} (P : X → Type 0) → ((x : X) → Decided (P x)) → (o : Option X) → Decided ((x : X) × (o ≡ Some x) × P x)
some_value P d None = inr (λ h. let e = h.1 in cc)
some_value P d (Some x) = elim (d x) [ inl p ↦ inl (x, refl, p) | inr n ↦ inr (λ h. n (subst P (sym (same_Some x h.0 h.1)) h.2)) ]

-- some item of a list
pub some_item : {X : Type 0} (P : X → Type 0) → ((x : X) → Decided (P x)) → (xs : List X) → Decided ((k : ℕ) × (x : X) × (slice_get xs k ≡ Some x) × P x)
some_item P d [] = inr (λ h. let e = h.2 in cc)
some_item P d (y ∷ xs) = by (d y) (some_item P d xs)
  where
    none : (P y → ⊥) → (((k : ℕ) × (x : _) × (slice_get xs k ≡ Some x) × P x) → ⊥) → ((k : ℕ) × (x : _) × (slice_get (y ∷ xs) k ≡ Some x) × P x) → ⊥
    none n m (zero, x, e, p) = n (subst P (sym (same_Some y x e)) p)
    none n m (suc k, x, e, p) = m (k, x, e, p)

    by : Decided (P y) → Decided ((k : ℕ) × (x : _) × (slice_get xs k ≡ Some x) × P x) → Decided ((k : ℕ) × (x : _) × (slice_get (y ∷ xs) k ≡ Some x) × P x)
    by (inl p) rest = inl (0, y, refl, p)
    by (inr n) (inl h) = inl (suc h.0, h.1, h.2, h.3)
    by (inr n) (inr m) = inr (none n m)

-- all items are good, or one is bad and those before it are good
abbrev pub FirstBad : {X : Type 0} → (ℕ → X → Type 0) → (ℕ → X → Type 0) → List X → Type 0
FirstBad {X} Good Bad xs = ((k : ℕ) (x : X) → slice_get xs k ≡ Some x → Good k x)
    ⊎ ((k : ℕ) × (x : X) × (slice_get xs k ≡ Some x) × Bad k x × ((j : ℕ) (y : X) → j < k → slice_get xs j ≡ Some y → Good j y))

pub first_bad : {X : Type 0} (Good Bad : ℕ → X → Type 0) → ((k : ℕ) (x : X) → Good k x ⊎ Bad k x) → (xs : List X) → FirstBad Good Bad xs
first_bad Good Bad d [] = inl (λ k x e. absurd (let f : None ≡ Some x = e in cc))
first_bad {X} Good Bad d (y ∷ xs) = by (d 0 y) (first_bad (λ k x. Good (suc k) x) (λ k x. Bad (suc k) x) (λ k x. d (suc k) x) xs)
  where
    all : Good 0 y → ((k : ℕ) (x : X) → slice_get xs k ≡ Some x → Good (suc k) x) → (k : ℕ) (x : X) → slice_get (y ∷ xs) k ≡ Some x → Good k x
    all g rest zero x e = subst (Good 0) (same_Some y x e) g
    all g rest (suc k) x e = rest k x e

    upto : (n : ℕ) → Good 0 y → ((j : ℕ) (z : X) → j < n → slice_get xs j ≡ Some z → Good (suc j) z) → (j : ℕ) (z : X) → j < suc n → slice_get (y ∷ xs) j ≡ Some z → Good j z
    upto n g rest zero z l e = subst (Good 0) (same_Some y z e) g
    upto n g rest (suc j) z l e = rest j z (omega (arith, l)) e

    by : Good 0 y ⊎ Bad 0 y → FirstBad (λ k x. Good (suc k) x) (λ k x. Bad (suc k) x) xs → FirstBad Good Bad (y ∷ xs)
    by (inr bad) rest = inr (0, y, refl, bad, λ j z l e. absurd (omega (arith, l)))
    by (inl g) (inl rest) = inl (all g rest)
    by (inl g) (inr h) = inr (suc h.0, h.1, h.2, h.3, upto h.0 g h.4)

pub same_list : {X : Type 0} → ((a b : X) → Decided (a ≡ b)) → (xs ys : List X) → Decided (xs ≡ ys)
same_list d [] [] = inl refl
same_list d [] (y ∷ ys) = inr (λ e. cc)
same_list d (x ∷ xs) [] = inr (λ e. cc)
same_list d (x ∷ xs) (y ∷ ys) = by (d x y) (same_list d xs ys)
  where
    by : Decided (x ≡ y) → Decided (xs ≡ ys) → Decided (x ∷ xs ≡ y ∷ ys)
    by (inl e) (inl f) = inl (ap (λ z. z ∷ xs) e ∙ ap (λ z. y ∷ z) f)
    by (inl e) (inr n) = inr (λ h. n (let f : x ∷ xs ≡ y ∷ ys = h in cc))
    by (inr n) rest = inr (λ h. n (let f : x ∷ xs ≡ y ∷ ys = h in cc))
