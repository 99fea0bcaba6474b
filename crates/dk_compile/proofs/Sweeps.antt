-- Lists of reads that are put together in order.
use Rattle.std.proofs.Common.{◌≡◌, ℕ, zero, suc, ◌<◌, ◌⊎◌, inl, inr, List, [], ◌∷◌, ◌++◌, length, slice_index_or, refl, subst, arith}
use Rattle.std.specs.Prelude.{Contains}
use Rattle.std.proofs.lemmas.Bool.{cases_lt}
use Rattle.dk_base.specs.declared.stencils.LiveRead.{LiveRead}
use Rattle.dk_base.specs.Stencils.{IsBefore, AreInOrder}
use Rattle.dk_compile.proofs.Searches.{Settled}

abbrev pub Each : (LiveRead → Type 0) → List LiveRead → Type 0
Each P [] = Unit {0}
Each P (x ∷ xs) = P x × Each P xs

abbrev pub In : LiveRead → List LiveRead → Type 0
In r [] = ⊥
In r (x ∷ xs) = (x ≡ r) ⊎ In r xs

-- each comes before all later ones
abbrev pub Ascend : List LiveRead → Type 0
Ascend [] = Unit {0}
Ascend (x ∷ xs) = Each (IsBefore x) xs × Ascend xs

each_at : (P : LiveRead → Type 0) (xs : List LiveRead) → Each P xs → (k : ℕ) (d : LiveRead) → k < length xs → P (slice_index_or xs k d)
each_at P [] e k d lt = absurd (omega (arith, lt))
each_at P (x ∷ xs) e zero d lt = e.0
each_at P (x ∷ xs) e (suc k) d lt = each_at P xs e.1 k d (omega (arith, lt))

pub in_order : (xs : List LiveRead) → Ascend xs → AreInOrder xs
in_order [] s i j d h l = absurd (omega (arith, l))
in_order (x ∷ xs) s i zero d h l = absurd (omega (arith, h))
in_order (x ∷ xs) s zero (suc j) d h l = each_at (IsBefore x) xs s.0 j d (omega (arith, l))
in_order (x ∷ xs) s (suc i) (suc j) d h l = in_order xs s.1 i j d (omega (arith, h)) (omega (arith, l))

pub each_of : (P : LiveRead → Type 0) (xs : List LiveRead) → Each P xs → (r : LiveRead) → Contains xs r → P r
each_of P xs e r (k, lt, is) = subst P is (each_at P xs e k r lt)

pub in_contains : (xs : List LiveRead) (r : LiveRead) → In r xs → Contains xs r
in_contains [] r h = absurd h
in_contains (x ∷ xs) r (inl is) = (zero, (let some : 0 < length (x ∷ xs) = omega arith in some), is)
in_contains (x ∷ xs) r (inr h) = let (k, lt, is) = in_contains xs r h in (suc k, (let more : suc k < length (x ∷ xs) = omega (arith, lt) in more), is)

each_weaker : (P Q : LiveRead → Type 0) → ((r : LiveRead) → P r → Q r) → (xs : List LiveRead) → Each P xs → Each Q xs
each_weaker P Q f [] e = tt
each_weaker P Q f (x ∷ xs) e = (f x e.0, each_weaker P Q f xs e.1)

each_both : (P : LiveRead → Type 0) (xs ys : List LiveRead) → Each P xs → Each P ys → Each P (xs ++ ys)
each_both P [] ys a b = b
each_both P (x ∷ xs) ys a b = (a.0, each_both P xs ys a.1 b)

ascend_both : (xs ys : List LiveRead) → Ascend xs → Ascend ys → Each (λ x. Each (IsBefore x) ys) xs → Ascend (xs ++ ys)
ascend_both [] ys a b across = b
ascend_both (x ∷ xs) ys a b across = (each_both (IsBefore x) xs ys a.0 across.0, ascend_both xs ys a.1 b across.1)

in_first : (r : LiveRead) (xs ys : List LiveRead) → In r xs → In r (xs ++ ys)
in_first r [] ys h = absurd h
in_first r (x ∷ xs) ys (inl is) = inl is
in_first r (x ∷ xs) ys (inr h) = inr (in_first r xs ys h)

in_second : (r : LiveRead) (xs ys : List LiveRead) → In r ys → In r (xs ++ ys)
in_second r [] ys h = h
in_second r (x ∷ xs) ys h = inr (in_second r xs ys h)

-- the lists 0 to n - 1, one after another
abbrev pub sweep : ℕ → (ℕ → List LiveRead) → List LiveRead
sweep zero F = []
sweep (suc n) F = sweep n F ++ F n

pub each_sweep : (P : LiveRead → Type 0) (n : ℕ) (F : ℕ → List LiveRead) → ((k : ℕ) → k < n → Each P (F k)) → Each P (sweep n F)
each_sweep P zero F each = tt
each_sweep P (suc n) F each = each_both P (sweep n F) (F n) (each_sweep P n F (λ k lt. each k (omega (arith, lt)))) (each n (omega arith))

pub in_sweep : (r : LiveRead) (n : ℕ) (F : ℕ → List LiveRead) (k : ℕ) → k < n → In r (F k) → In r (sweep n F)
in_sweep r zero F k lt h = absurd (omega (arith, lt))
in_sweep r (suc n) F k lt h = elim (cases_lt k n) [
  | inl less ↦ in_first r (sweep n F) (F n) (in_sweep r n F k less h)
  | inr most ↦ let same : k ≡ n = omega (arith, lt, most) in in_second r (sweep n F) (F n) (subst (λ i. In r (F i)) same h)
]

-- where the key of each list's reads decides which of two comes first
pub ascend_sweep : (K : ℕ → LiveRead → Type 0) → ((j k : ℕ) (a b : LiveRead) → j < k → K j a → K k b → IsBefore a b) → (n : ℕ) (F : ℕ → List LiveRead) → ((k : ℕ) → Ascend (F k)) → ((k : ℕ) → Each (K k) (F k)) → Ascend (sweep n F)
ascend_sweep K rule zero F ascend keys = tt
ascend_sweep K rule (suc n) F ascend keys =
    let Earlier : LiveRead → Type 0 = λ x. (j : ℕ) × (j < n) × K j x in
    let before : Each Earlier (sweep n F) = each_sweep Earlier n F (λ k lt. each_weaker (K k) Earlier (λ r is. (k, lt, is)) (F k) (keys k)) in
    ascend_both (sweep n F) (F n) (ascend_sweep K rule n F ascend keys) (ascend n)
    (each_weaker Earlier (λ x. Each (IsBefore x) (F n)) (λ x e. each_weaker (K n) (IsBefore x) (λ b is. rule e.0 n x b e.1 e.2 is) (F n) (keys n)) (sweep n F) before)

-- the read, where it holds of it
abbrev pub picked : (Q : LiveRead → Type 0) (r : LiveRead) → Settled (Q r) → List LiveRead
picked Q r (inl is) = r ∷ []
picked Q r (inr not) = []

pub each_picked : (P Q : LiveRead → Type 0) (r : LiveRead) (s : Settled (Q r)) → (Q r → P r) → Each P (picked Q r s)
each_picked P Q r (inl is) f = (f is, tt)
each_picked P Q r (inr not) f = tt

pub ascend_picked : (Q : LiveRead → Type 0) (r : LiveRead) (s : Settled (Q r)) → Ascend (picked Q r s)
ascend_picked Q r (inl is) = (tt, tt)
ascend_picked Q r (inr not) = tt

pub in_picked : (Q : LiveRead → Type 0) (r : LiveRead) (s : Settled (Q r)) → Q r → In r (picked Q r s)
in_picked Q r (inl is) h = inl refl
in_picked Q r (inr not) h = absurd (not h)
