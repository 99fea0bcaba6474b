-- The lines of a clock show its values.
use Rattle.std.proofs.Common.{◌≡◌, ℕ, zero, suc, ◌+◌, ◌-◌, ◌^◌, ◌<◌, ◌≤◌, Bool, true, false, List, [], ◌∷◌, ◌++◌, map, drop, get_or, refl, ap, sym, subst, ◌∙◌, arith}
use Rattle.std.specs.Prelude.{nat_eq, if◌then◌else◌, reverse}
use Rattle.std.specs.List.{AllByRecursion}
use Rattle.std.specs.Int.Digits.{digits_of}
use Rattle.std.proofs.lemmas.Int.Digits.{same_from_digits_of, first_digits_of}
use Rattle.vcd_trace.specs.Layout.{binary, id_of, value_line, changed_lines, AreValues}

pub head_same : (x y : ℕ) (xs ys : List ℕ) → x ∷ xs ≡ y ∷ ys → x ≡ y
head_same x y xs ys e = ap (λ l. get_or l 0 0) e

pub tail_same : (x y : ℕ) (xs ys : List ℕ) → x ∷ xs ≡ y ∷ ys → xs ≡ ys
tail_same x y xs ys e = ap (λ l. drop 1 l) e

shift_back : (k : ℕ) (xs ys : List ℕ) → map (λ d. k + d) xs ≡ map (λ d. k + d) ys → xs ≡ ys
shift_back k [] [] e = refl
shift_back k [] (y ∷ ys) e = absurd (let f : ⊥ = cc in f)
shift_back k (x ∷ xs) [] e = absurd (let f : ⊥ = cc in f)
shift_back k (x ∷ xs) (y ∷ ys) e =
    let h : x ≡ y = omega (arith, head_same (k + x) (k + y) (map (λ d. k + d) xs) (map (λ d. k + d) ys) e) in
    ap (λ z. z ∷ xs) h ∙ ap (λ z. y ∷ z) (shift_back k xs ys (tail_same (k + x) (k + y) (map (λ d. k + d) xs) (map (λ d. k + d) ys) e))

turned_back : (xs ys : List ℕ) → reverse xs ≡ reverse ys → xs ≡ ys
turned_back xs ys e = sym (Rattle.std.proofs.lemmas.List.reverse-reverse xs) ∙ ap reverse e ∙ Rattle.std.proofs.lemmas.List.reverse-reverse ys

two : 2 ≤ 94
two = omega arith

no_zero : (n : ℕ) → 0 < n → (b : ℕ) → 2 ≤ b → digits_of b n ≡ 0 ∷ [] → ⊥
no_zero n p b h e = let f : 0 < get_or (digits_of b n) 0 0 = first_digits_of b n h p in let g : get_or (digits_of b n) 0 0 ≡ 0 = ap (λ l. get_or l 0 0) e in omega (arith, f, g)

pub id_same : (i j : ℕ) → id_of i ≡ id_of j → i ≡ j
id_same zero zero e = refl
id_same zero (suc j) e = absurd (no_zero (suc j) (omega arith) 94 two (turned_back (digits_of 94 (suc j)) (0 ∷ []) (sym (shift_back 33 (0 ∷ []) (reverse (digits_of 94 (suc j))) e))))
id_same (suc i) zero e = absurd (no_zero (suc i) (omega arith) 94 two (turned_back (digits_of 94 (suc i)) (0 ∷ []) (shift_back 33 (reverse (digits_of 94 (suc i))) (0 ∷ []) e)))
id_same (suc i) (suc j) e = same_from_digits_of 94 (suc i) (suc j) two (turned_back (digits_of 94 (suc i)) (digits_of 94 (suc j)) (shift_back 33 (reverse (digits_of 94 (suc i))) (reverse (digits_of 94 (suc j))) e))

pub binary_same : (v u : ℕ) → binary v ≡ binary u → v ≡ u
binary_same zero zero e = refl
binary_same zero (suc u) e = absurd (no_zero (suc u) (omega arith) 2 (omega arith) (sym (shift_back 48 (0 ∷ []) (digits_of 2 (suc u)) e)))
binary_same (suc v) zero e = absurd (no_zero (suc v) (omega arith) 2 (omega arith) (shift_back 48 (digits_of 2 (suc v)) (0 ∷ []) e))
binary_same (suc v) (suc u) e = same_from_digits_of 2 (suc v) (suc u) (omega arith) (shift_back 48 (digits_of 2 (suc v)) (digits_of 2 (suc u)) e)

abbrev AreHigh : List ℕ → Type 0
AreHigh xs = AllByRecursion (λ b. 48 ≤ b) xs

shifted_high : (ds : List ℕ) → AreHigh (map (λ d. 48 + d) ds)
shifted_high [] = tt
shifted_high (d ∷ ds) = ((let l : 48 ≤ 48 + d = omega arith in l), shifted_high ds)

binary_high : (v : ℕ) → AreHigh (binary v)
binary_high zero = ((let l : 48 ≤ 48 = omega arith in l), tt)
binary_high (suc v) = shifted_high (digits_of 2 (suc v))

-- what comes before the first blank, and after it
cut_same : (xs ys a b : List ℕ) → AreHigh xs → AreHigh ys → xs ++ 32 ∷ a ≡ ys ++ 32 ∷ b → (xs ≡ ys) × (a ≡ b)
cut_same [] [] a b h g e = (refl, tail_same 32 32 a b e)
cut_same [] (y ∷ ys) a b h g e = absurd (let f : 32 ≡ y = head_same 32 y a (ys ++ 32 ∷ b) e in omega (arith, f, g.0))
cut_same (x ∷ xs) [] a b h g e = absurd (let f : x ≡ 32 = head_same x 32 (xs ++ 32 ∷ a) b e in omega (arith, f, h.0))
cut_same (x ∷ xs) (y ∷ ys) a b h g e =
    let rest = cut_same xs ys a b h.1 g.1 (tail_same x y (xs ++ 32 ∷ a) (ys ++ 32 ∷ b) e) in
    (ap (λ z. z ∷ xs) (head_same x y (xs ++ 32 ∷ a) (ys ++ 32 ∷ b) e) ∙ ap (λ z. y ∷ z) rest.0, rest.1)

abbrev pub line_by : Bool → ℕ → ℕ → List ℕ
line_by one i v = if one then (48 + v) ∷ id_of i else 98 ∷ (binary v ++ 32 ∷ id_of i)

-- a value of one bit, where the line is that of one bit
abbrev IsSmall : Bool → ℕ → Type 0
IsSmall true v = v < 2
IsSmall false v = Unit {0}

line_same : (p q : Bool) (i j v u : ℕ) → IsSmall p v → IsSmall q u → line_by p i v ≡ line_by q j u → (i ≡ j) × (v ≡ u)
line_same true true i j v u h g e = (id_same i j (tail_same (48 + v) (48 + u) (id_of i) (id_of j) e), (let f : v ≡ u = omega (arith, head_same (48 + v) (48 + u) (id_of i) (id_of j) e) in f))
line_same true false i j v u h g e = absurd (let f : 48 + v ≡ 98 = head_same (48 + v) 98 (id_of i) (binary u ++ 32 ∷ id_of j) e in omega (arith, f, h))
line_same false true i j v u h g e = absurd (let f : 98 ≡ 48 + u = head_same 98 (48 + u) (binary v ++ 32 ∷ id_of i) (id_of j) e in omega (arith, f, g))
line_same false false i j v u h g e =
    let parts = cut_same (binary v) (binary u) (id_of i) (id_of j) (binary_high v) (binary_high u) (tail_same 98 98 (binary v ++ 32 ∷ id_of i) (binary u ++ 32 ∷ id_of j) e) in
    (id_same i j parts.1, binary_same v u parts.0)

is_one : (w : ℕ) → nat_eq w 1 ≡ true → w ≡ 1
is_one w e = grind (arith, e)

same_value : (a b : ℕ) → nat_eq a b ≡ true → a ≡ b
same_value a b e = grind (arith, e)

small : (w v : ℕ) (b : Bool) → nat_eq w 1 ≡ b → v < 2 ^ w → IsSmall b v
small w v true e l = let f : v < 2 ^ 1 = subst (λ z. v < 2 ^ z) (is_one w e) l in f
small w v false e l = tt

-- a line shows its variable and its value
pub shows : (w u i j v x : ℕ) → v < 2 ^ w → x < 2 ^ u → value_line w i v ≡ value_line u j x → (i ≡ j) × (v ≡ x)
shows w u i j v x h g e = line_same (nat_eq w 1) (nat_eq u 1) i j v x (small w v (nat_eq w 1) refl h) (small u x (nat_eq u 1) refl g) e

-- the first line, if there is one, is of a later variable
record IsLater (i : ℕ) (line : List ℕ) : Type 0 where
  pub variable : ℕ
  pub width : ℕ
  pub value : ℕ
  pub later : i ≤ variable
  pub fits : value < 2 ^ width
  pub is : line ≡ value_line width variable value

module _ where
  first_later : (i : ℕ) (ws old new : List ℕ) → AreValues ws new → (line : List ℕ) (rest : List (List ℕ)) → changed_lines i ws old new ≡ line ∷ rest → IsLater i line
  first_later i [] old new h line rest e = absurd (let f : ⊥ = cc in f)
  first_later i (w ∷ ws) [] new h line rest e = absurd (let f : ⊥ = cc in f)
  first_later i (w ∷ ws) (a ∷ old) [] h line rest e = absurd (let f : ⊥ = cc in f)
  first_later i (w ∷ ws) (a ∷ old) (b ∷ new) h line rest e = by (nat_eq a b) (first_later (i + 1) ws old new h.1 line rest) e
    where
      by : (c : Bool) → (changed_lines (i + 1) ws old new ≡ line ∷ rest → IsLater (i + 1) line) → (if c then [] else value_line w i b ∷ []) ++ changed_lines (i + 1) ws old new ≡ line ∷ rest → IsLater i line
      by true later e = let h = later e in record { variable = h.variable; width = h.width; value = h.value; later = omega (arith, h.later); fits = h.fits; is = h.is }
      by false later e = record { variable = i; width = w; value = b; later = omega arith; fits = h.0; is = sym (Rattle.std.proofs.Common.ap (λ (l : List (List ℕ)). Rattle.std.proofs.Common.get_or l 0 []) e) }

  pub one : (i : ℕ) (ws old a b : List ℕ) → AreValues ws old → AreValues ws a → AreValues ws b → changed_lines i ws old a ≡ changed_lines i ws old b → a ≡ b
  one i [] [] [] [] o h g e = refl
  one i [] (p ∷ old) a b o h g e = absurd o
  one i [] [] (x ∷ a) b o h g e = absurd h
  one i [] [] [] (y ∷ b) o h g e = absurd g
  one i (w ∷ ws) [] a b o h g e = absurd o
  one i (w ∷ ws) (p ∷ old) [] b o h g e = absurd h
  one i (w ∷ ws) (p ∷ old) (x ∷ a) [] o h g e = absurd g
  one i (w ∷ ws) (p ∷ old) (x ∷ a) (y ∷ b) o h g e = by (nat_eq p x) (nat_eq p y) refl refl (λ k. one (i + 1) ws old a b o.1 h.1 g.1 k) e
    where
      apart : (new : List ℕ) → AreValues ws new → (v : ℕ) (rest : List (List ℕ)) → v < 2 ^ w → changed_lines (i + 1) ws old new ≡ value_line w i v ∷ rest → ⊥
      apart new fits v rest l k =
          let later = first_later (i + 1) ws old new fits (value_line w i v) rest k in
          let s = shows w later.width i later.variable v later.value l later.fits later.is in
          omega (arith, later.later, s.0)

      by : (c d : Bool) → nat_eq p x ≡ c → nat_eq p y ≡ d → (changed_lines (i + 1) ws old a ≡ changed_lines (i + 1) ws old b → a ≡ b) → (if c then [] else value_line w i x ∷ []) ++ changed_lines (i + 1) ws old a ≡ (if d then [] else value_line w i y ∷ []) ++ changed_lines (i + 1) ws old b → x ∷ a ≡ y ∷ b
      by true true s t behind k = ap (λ z. z ∷ a) (sym (same_value p x s) ∙ same_value p y t) ∙ ap (λ z. y ∷ z) (behind k)
      by true false s t behind k = absurd (apart a h.1 y (changed_lines (i + 1) ws old b) g.0 k)
      by false true s t behind k = absurd (apart b g.1 x (changed_lines (i + 1) ws old a) h.0 (sym k))
      by false false s t behind k =
          let line : value_line w i x ≡ value_line w i y = ap (λ (l : List (List ℕ)). get_or l 0 []) k in
          ap (λ z. z ∷ a) (shows w w i i x y h.0 g.0 line).1 ∙ ap (λ z. y ∷ z) (behind (ap (λ (l : List (List ℕ)). drop 1 l) k))
