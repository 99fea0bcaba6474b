-- Distinct numbers, ascending: there is one such list of them, and it is what a test picks from a range that has them all.
use Rattle.std.proofs.Common.{◌≡◌, ◌⊎◌, ◌<◌, ◌≤◌, ℕ, zero, suc, ◌+◌, Bool, true, false, List, [], ◌∷◌, length, slice_index, slice_index_or, Contains, refl, ap, sym, subst, ◌∙◌, arith, inl, inr, cond}
use Rattle.std.specs.Prelude.{filter, ◌==◌, ◌||◌}
use Rattle.std.specs.List.{list_any, range_with_len}
use Rattle.std.specs.List.Sorted.{IsStrictlyIncreasing}
use Rattle.std.proofs.lemmas.Bool.Decides.{nat_tests}
use Rattle.std.proofs.lemmas.List.FromFn.{get_or-range_with_len, length-range_with_len}
use Rattle.std.proofs.lemmas.List.Kept.{IsStrictlyIncreasing-filter}
use Rattle.buffer_plan.specs.Plans.{AreDistinct, last_of}

pub head_in : {X : Type 0} (x : X) (xs : List X) → Contains (x ∷ xs) x
head_in x xs = (0, omega arith, refl)

pub tail_in : {X : Type 0} (x : X) (xs : List X) (a : X) → Contains xs a → Contains (x ∷ xs) a
tail_in x xs a (k, lt, e) = (suc k, (let h : suc k < length (x ∷ xs) = omega (arith, lt) in h), e)

pub one_of : {X : Type 0} (x : X) (xs : List X) (a : X) → Contains (x ∷ xs) a → (x ≡ a) ⊎ Contains xs a
one_of x xs a (zero, lt, e) = inl e
one_of x xs a (suc k, lt, e) = inr (k, (let h : k < length xs = omega (arith, lt) in h), e)

pub none_in : {X : Type 0} (a : X) → Contains [] a → ⊥
none_in a (k, lt, e) = omega (arith, lt)

tail_up : (x : ℕ) (xs : List ℕ) → IsStrictlyIncreasing (x ∷ xs) → IsStrictlyIncreasing xs
tail_up x xs up k lt =
    let next : suc k + 1 ≡ suc (k + 1) = omega arith in
    let within : suc k + 1 < length (x ∷ xs) = omega (arith, lt) in
    subst (λ j. slice_index xs k < slice_index (x ∷ xs) j) next (up (suc k) within)

second_up : (x y : ℕ) (ys : List ℕ) → IsStrictlyIncreasing (x ∷ (y ∷ ys)) → x < y
second_up x y ys up = up 0 (let h : 1 < length (x ∷ (y ∷ ys)) = omega arith in h)

-- the first is below all others
below_all : (x : ℕ) (xs : List ℕ) → IsStrictlyIncreasing (x ∷ xs) → (a : ℕ) → Contains xs a → x < a
below_all x [] up a in_xs = absurd (none_in a in_xs)
below_all x (y ∷ ys) up a in_xs = elim (one_of y ys a in_xs) [
  | inl e ↦ let lt = second_up x y ys up in omega (arith, lt, e)
  | inr more ↦
      let lt = second_up x y ys up in
      let rest = below_all y ys (tail_up x (y ∷ ys) up) a more in
      omega (arith, lt, rest)
]

-- two such lists of the same numbers are one
pub once : (xs ys : List ℕ) → IsStrictlyIncreasing xs → IsStrictlyIncreasing ys → ((a : ℕ) → Contains xs a → Contains ys a) → ((a : ℕ) → Contains ys a → Contains xs a) → xs ≡ ys
once [] [] up down to from = refl
once [] (y ∷ ys) up down to from = absurd (none_in y (from y (head_in y ys)))
once (x ∷ xs) [] up down to from = absurd (none_in x (to x (head_in x xs)))
once (x ∷ xs) (y ∷ ys) up down to from = both first (once xs ys (tail_up x xs up) (tail_up y ys down) to_rest from_rest)
  where
    first : x ≡ y
    first = elim (one_of y ys x (to x (head_in x xs))) [
      | inl e ↦ sym e
      | inr more ↦ elim (one_of x xs y (from y (head_in y ys))) [
        | inl e ↦ e
        | inr other ↦
            let low = below_all y ys down x more in
            let high = below_all x xs up y other in
            absurd (omega (arith, low, high))
      ]
    ]

    to_rest : (a : ℕ) → Contains xs a → Contains ys a
    to_rest a has = elim (one_of y ys a (to a (tail_in x xs a has))) [
      | inl e ↦ let low = below_all x xs up a has in absurd (omega (arith, low, e, first))
      | inr more ↦ more
    ]

    from_rest : (a : ℕ) → Contains ys a → Contains xs a
    from_rest a has = elim (one_of x xs a (from a (tail_in y ys a has))) [
      | inl e ↦ let low = below_all y ys down a has in absurd (omega (arith, low, e, first))
      | inr more ↦ more
    ]

    both : {a b : ℕ} {as' bs : List ℕ} → a ≡ b → as' ≡ bs → a ∷ as' ≡ b ∷ bs
    both e f = cc

-- what a filter keeps
filter_has : (p : ℕ → Bool) (xs : List ℕ) (a : ℕ) → Contains xs a → p a ≡ true → Contains (filter p xs) a
filter_has p [] a has passes = absurd (none_in a has)
filter_has p (x ∷ xs) a has passes = by (p x) refl (λ h. filter_has p xs a h passes)
  where
    by : (b : Bool) → p x ≡ b → (Contains xs a → Contains (filter p xs) a) → Contains (cond b (x ∷ filter p xs) (filter p xs)) a
    by true e rest = elim (one_of x xs a has) [ inl h ↦ subst (Contains (x ∷ filter p xs)) h (head_in x (filter p xs)) | inr h ↦ tail_in x (filter p xs) a (rest h) ]
    by false e rest = elim (one_of x xs a has) [ inl h ↦ absurd (let f : true ≡ false = sym passes ∙ ap p (sym h) ∙ e in let g : ⊥ = cc in g) | inr h ↦ rest h ]

filter_passed : (p : ℕ → Bool) (xs : List ℕ) (a : ℕ) → Contains (filter p xs) a → p a ≡ true
filter_passed p [] a has = absurd (none_in a has)
filter_passed p (x ∷ xs) a has = by (p x) refl has (λ h. filter_passed p xs a h)
  where
    by : (b : Bool) → p x ≡ b → Contains (cond b (x ∷ filter p xs) (filter p xs)) a → (Contains (filter p xs) a → p a ≡ true) → p a ≡ true
    by true e has rest = elim (one_of x (filter p xs) a has) [ inl h ↦ ap p (sym h) ∙ e | inr h ↦ rest h ]
    by false e has rest = rest has

-- a test for being among them
pub equal_tests : (a b : ℕ) → (a == b) ≡ true → a ≡ b
equal_tests a b h = grind (arith, nat_tests, h)

pub same_tests : (a b : ℕ) → a ≡ b → (a == b) ≡ true
same_tests a b h = grind (arith, nat_tests, h)

any_true : (xs : List ℕ) (a : ℕ) → Contains xs a → list_any (λ x. x == a) xs ≡ true
any_true [] a has = absurd (none_in a has)
any_true (x ∷ xs) a has = by (x == a) refl (λ h. any_true xs a h)
  where
    by : (b : Bool) → (x == a) ≡ b → (Contains xs a → list_any (λ x. x == a) xs ≡ true) → (b || list_any (λ x. x == a) xs) ≡ true
    by true e rest = refl
    by false e rest = elim (one_of x xs a has) [ inl h ↦ absurd (let f : true ≡ false = sym (same_tests x a h) ∙ e in let g : ⊥ = cc in g) | inr h ↦ rest h ]

any_has : (xs : List ℕ) (a : ℕ) → list_any (λ x. x == a) xs ≡ true → Contains xs a
any_has [] a h = absurd (let f : ⊥ = cc in f)
any_has (x ∷ xs) a h = by (x == a) refl h (λ g. any_has xs a g)
  where
    by : (b : Bool) → (x == a) ≡ b → (b || list_any (λ x. x == a) xs) ≡ true → (list_any (λ x. x == a) xs ≡ true → Contains xs a) → Contains (x ∷ xs) a
    by true e h rest = subst (Contains (x ∷ xs)) (equal_tests x a e) (head_in x xs)
    by false e h rest = tail_in x xs a (rest h)

range_up : (n : ℕ) → IsStrictlyIncreasing (range_with_len 0 n)
range_up n k lt =
    let long = length-range_with_len 0 n in
    let here = get_or-range_with_len 0 n k 0 (omega (arith, lt, long)) in
    let next = get_or-range_with_len 0 n (k + 1) 0 (omega (arith, lt, long)) in
    omega (arith, here, next)

range_has : (n a : ℕ) → a < n → Contains (range_with_len 0 n) a
range_has n a lt = (a, (let h : a < length (range_with_len 0 n) = omega (arith, lt, length-range_with_len 0 n) in h), (let e : slice_index_or (range_with_len 0 n) a a ≡ a = omega (arith, get_or-range_with_len 0 n a a lt) in e))

-- what the test picks from a range that has them all
pub picked : (all : List ℕ) (n : ℕ) → ((a : ℕ) → Contains all a → a < n) → AreDistinct all (filter (λ a. list_any (λ x. x == a) all) (range_with_len 0 n))
picked all n within = record {
  ascending = IsStrictlyIncreasing-filter (λ a. list_any (λ x. x == a) all) (range_with_len 0 n) (range_up n);
  same = λ a. (
    λ has. any_has all a (filter_passed (λ a. list_any (λ x. x == a) all) (range_with_len 0 n) a has),
    λ has. filter_has (λ a. list_any (λ x. x == a) all) (range_with_len 0 n) a (range_has n a (within a has)) (any_true all a has),
  );
}

pub distinct_once : (all xs ys : List ℕ) → AreDistinct all xs → AreDistinct all ys → xs ≡ ys
distinct_once all xs ys one other = once xs ys one.ascending other.ascending (λ a has. (other.same a).1 ((one.same a).0 has)) (λ a has. (one.same a).1 ((other.same a).0 has))

-- the last is the greatest, and one of them
last_greatest : (x : ℕ) (xs : List ℕ) → IsStrictlyIncreasing (x ∷ xs) → (a : ℕ) → Contains (x ∷ xs) a → a ≤ last_of x xs
last_greatest x [] up a has = elim (one_of x [] a has) [ inl e ↦ omega (arith, e) | inr none ↦ absurd (none_in a none) ]
last_greatest x (y ∷ ys) up a has = elim (one_of x (y ∷ ys) a has) [
  | inl e ↦
      let lt = second_up x y ys up in
      let rest = last_greatest y ys (tail_up x (y ∷ ys) up) y (head_in y ys) in
      omega (arith, e, lt, rest)
  | inr more ↦ last_greatest y ys (tail_up x (y ∷ ys) up) a more
]

last_in : (x : ℕ) (xs : List ℕ) → Contains (x ∷ xs) (last_of x xs)
last_in x [] = head_in x []
last_in x (y ∷ ys) = tail_in x (y ∷ ys) (last_of y ys) (last_in y ys)

-- so it is a bound that is 0 or one of them
pub last_is : (xs : List ℕ) (bound : ℕ) → IsStrictlyIncreasing xs → ((a : ℕ) → Contains xs a → a ≤ bound) → (bound ≡ 0) ⊎ Contains xs bound → last_of 0 xs ≡ bound
last_is [] bound up most (inl e) = sym e
last_is [] bound up most (inr has) = absurd (none_in bound has)
last_is (x ∷ xs) bound up most (inl e) =
    let high = most (last_of x xs) (last_in x xs) in
    omega (arith, high, e)
last_is (x ∷ xs) bound up most (inr has) =
    let high = most (last_of x xs) (last_in x xs) in
    let low = last_greatest x xs up bound has in
    omega (arith, high, low)
