-- A trace shows the values of all its clocks.
use Rattle.std.proofs.Common.{◌≡◌, ℕ, ◌+◌, Bool, true, false, List, [], ◌∷◌, ◌++◌, drop, get_or, refl, ap, sym, ◌∙◌, arith}
use Rattle.std.specs.Prelude.{nat_eq, if◌then◌else◌}
use Rattle.std.specs.List.{AllByRecursion}
use Rattle.vcd_trace.specs.Layout.{value_line, all_lines, changed_lines, time_line, later_lines, clock_lines, AreValues}
use Rattle.vcd_trace.proofs.Lines.{line_by, shows, one}

abbrev Text : Type 0
Text = List (List ℕ)

-- the line begins with no `#`
abbrev IsValue : List ℕ → Type 0
IsValue line = get_or line 0 0 ≡ 35 → ⊥

by_value : (b : Bool) (i v : ℕ) → IsValue (line_by b i v)
by_value true i v e = omega (arith, e)
by_value false i v e = omega (arith, e)

changed_values : (i : ℕ) (ws old new : List ℕ) → AllByRecursion IsValue (changed_lines i ws old new)
changed_values i [] old new = tt
changed_values i (w ∷ ws) [] new = tt
changed_values i (w ∷ ws) (a ∷ old) [] = tt
changed_values i (w ∷ ws) (a ∷ old) (b ∷ new) = by (nat_eq a b) (changed_values (i + 1) ws old new)
  where
    by : (c : Bool) → AllByRecursion IsValue (changed_lines (i + 1) ws old new) → AllByRecursion IsValue ((if c then [] else value_line w i b ∷ []) ++ changed_lines (i + 1) ws old new)
    by true h = h
    by false h = (by_value (nat_eq w 1) i b, h)

all_values : (i : ℕ) (ws new : List ℕ) → AllByRecursion IsValue (all_lines i ws new)
all_values i [] new = tt
all_values i (w ∷ ws) [] = tt
all_values i (w ∷ ws) (b ∷ new) = (by_value (nat_eq w 1) i b, all_values (i + 1) ws new)

first_same : (x y : List ℕ) (xs ys : Text) → x ∷ xs ≡ y ∷ ys → x ≡ y
first_same x y xs ys e = ap (λ (l : Text). get_or l 0 []) e

rest_same : (x y : List ℕ) (xs ys : Text) → x ∷ xs ≡ y ∷ ys → xs ≡ ys
rest_same x y xs ys e = ap (λ (l : Text). drop 1 l) e

-- what comes before the first time, and what from it on
cut : (xs ys : Text) (a b : ℕ) (r s : Text) → AllByRecursion IsValue xs → AllByRecursion IsValue ys → xs ++ time_line a ∷ r ≡ ys ++ time_line b ∷ s → (xs ≡ ys) × (time_line a ∷ r ≡ time_line b ∷ s)
cut [] [] a b r s h g e = (refl, e)
cut [] (y ∷ ys) a b r s h g e = absurd (g.0 (ap (λ l. get_or l 0 0) (sym (first_same (time_line a) y r (ys ++ time_line b ∷ s) e))))
cut (x ∷ xs) [] a b r s h g e = absurd (h.0 (ap (λ l. get_or l 0 0) (first_same x (time_line b) (xs ++ time_line a ∷ r) s e)))
cut (x ∷ xs) (y ∷ ys) a b r s h g e =
    let more = cut xs ys a b r s h.1 g.1 (rest_same x y (xs ++ time_line a ∷ r) (ys ++ time_line b ∷ s) e) in
    (ap (λ z. z ∷ xs) (first_same x y (xs ++ time_line a ∷ r) (ys ++ time_line b ∷ s) e) ∙ ap (λ z. y ∷ z) more.0, more.1)

-- the lines from a time on begin with it
abbrev rest_of : (k : ℕ) (ws old : List ℕ) → Text → Text
rest_of k ws old [] = []
rest_of k ws old (new ∷ clocks) = changed_lines 0 ws old new ++ later_lines (k + 1) ws new clocks

begins : (k : ℕ) (ws old : List ℕ) (clocks : Text) → later_lines k ws old clocks ≡ time_line k ∷ rest_of k ws old clocks
begins k ws old [] = refl
begins k ws old (new ∷ clocks) = refl

not_nothing : (xs : Text) (a : ℕ) (r : Text) → [] ≡ xs ++ time_line a ∷ r → ⊥
not_nothing [] a r e = cc
not_nothing (x ∷ xs) a r e = cc

one_all : (i : ℕ) (ws a b : List ℕ) → AreValues ws a → AreValues ws b → all_lines i ws a ≡ all_lines i ws b → a ≡ b
one_all i [] [] [] h g e = refl
one_all i [] (x ∷ a) b h g e = absurd h
one_all i [] [] (y ∷ b) h g e = absurd g
one_all i (w ∷ ws) [] b h g e = absurd h
one_all i (w ∷ ws) (x ∷ a) [] h g e = absurd g
one_all i (w ∷ ws) (x ∷ a) (y ∷ b) h g e =
    ap (λ z. z ∷ a) (shows w w i i x y h.0 g.0 (first_same (value_line w i x) (value_line w i y) (all_lines (i + 1) ws a) (all_lines (i + 1) ws b) e)).1
    ∙ ap (λ z. y ∷ z) (one_all (i + 1) ws a b h.1 g.1 (rest_same (value_line w i x) (value_line w i y) (all_lines (i + 1) ws a) (all_lines (i + 1) ws b) e))

one_later : (k : ℕ) (ws old : List ℕ) (xs ys : Text) → AreValues ws old → AllByRecursion (AreValues ws) xs → AllByRecursion (AreValues ws) ys → later_lines k ws old xs ≡ later_lines k ws old ys → xs ≡ ys
one_later k ws old [] [] o h g e = refl
one_later k ws old [] (y ∷ ys) o h g e =
    absurd (not_nothing (changed_lines 0 ws old y) (k + 1) (rest_of (k + 1) ws y ys) (rest_same (time_line k) (time_line k) [] (changed_lines 0 ws old y ++ later_lines (k + 1) ws y ys) e ∙ ap (λ z. changed_lines 0 ws old y ++ z) (begins (k + 1) ws y ys)))
one_later k ws old (x ∷ xs) [] o h g e =
    absurd (not_nothing (changed_lines 0 ws old x) (k + 1) (rest_of (k + 1) ws x xs) (sym (rest_same (time_line k) (time_line k) (changed_lines 0 ws old x ++ later_lines (k + 1) ws x xs) [] e) ∙ ap (λ z. changed_lines 0 ws old x ++ z) (begins (k + 1) ws x xs)))
one_later k ws old (x ∷ xs) (y ∷ ys) o h g e =
    let both = cut (changed_lines 0 ws old x) (changed_lines 0 ws old y) (k + 1) (k + 1) (rest_of (k + 1) ws x xs) (rest_of (k + 1) ws y ys) (changed_values 0 ws old x) (changed_values 0 ws old y)
    (ap (λ z. changed_lines 0 ws old x ++ z) (sym (begins (k + 1) ws x xs)) ∙ rest_same (time_line k) (time_line k) (changed_lines 0 ws old x ++ later_lines (k + 1) ws x xs) (changed_lines 0 ws old y ++ later_lines (k + 1) ws y ys) e ∙ ap (λ z. changed_lines 0 ws old y ++ z) (begins (k + 1) ws y ys)) in
    let same : x ≡ y = one 0 ws old x y o h.0 g.0 both.0 in
    let later : later_lines (k + 1) ws x xs ≡ later_lines (k + 1) ws x ys = begins (k + 1) ws x xs ∙ both.1 ∙ sym (begins (k + 1) ws y ys) ∙ ap (λ z. later_lines (k + 1) ws z ys) (sym same) in
    ap (λ z. z ∷ xs) same ∙ ap (λ z. y ∷ z) (one_later (k + 1) ws x xs ys h.0 h.1 g.1 later)

pub one_whole : (ws : List ℕ) (xs ys : Text) → AllByRecursion (AreValues ws) xs → AllByRecursion (AreValues ws) ys → clock_lines ws xs ≡ clock_lines ws ys → xs ≡ ys
one_whole ws [] [] h g e = refl
one_whole ws [] (y ∷ ys) h g e = absurd (not_nothing (all_lines 0 ws y) 1 (rest_of 1 ws y ys) (rest_same (time_line 0) (time_line 0) [] (all_lines 0 ws y ++ later_lines 1 ws y ys) e ∙ ap (λ z. all_lines 0 ws y ++ z) (begins 1 ws y ys)))
one_whole ws (x ∷ xs) [] h g e = absurd (not_nothing (all_lines 0 ws x) 1 (rest_of 1 ws x xs) (sym (rest_same (time_line 0) (time_line 0) (all_lines 0 ws x ++ later_lines 1 ws x xs) [] e) ∙ ap (λ z. all_lines 0 ws x ++ z) (begins 1 ws x xs)))
one_whole ws (x ∷ xs) (y ∷ ys) h g e =
    let both = cut (all_lines 0 ws x) (all_lines 0 ws y) 1 1 (rest_of 1 ws x xs) (rest_of 1 ws y ys) (all_values 0 ws x) (all_values 0 ws y)
    (ap (λ z. all_lines 0 ws x ++ z) (sym (begins 1 ws x xs)) ∙ rest_same (time_line 0) (time_line 0) (all_lines 0 ws x ++ later_lines 1 ws x xs) (all_lines 0 ws y ++ later_lines 1 ws y ys) e ∙ ap (λ z. all_lines 0 ws y ++ z) (begins 1 ws y ys)) in
    let same : x ≡ y = one_all 0 ws x y h.0 g.0 both.0 in
    let later : later_lines 1 ws x xs ≡ later_lines 1 ws x ys = begins 1 ws x xs ∙ both.1 ∙ sym (begins 1 ws y ys) ∙ ap (λ z. later_lines 1 ws z ys) (sym same) in
    ap (λ z. z ∷ xs) same ∙ ap (λ z. y ∷ z) (one_later 1 ws x xs ys h.0 h.1 g.1 later)
