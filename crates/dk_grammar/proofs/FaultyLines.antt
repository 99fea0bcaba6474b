-- The first faulty line of a text: there is one, and a text of the language has none.
use Rattle.std.proofs.Common.{◌≡◌, ◌<◌, ◌⊎◌, inl, inr, ℕ, suc, Bool, true, false, List, [], ◌∷◌, ◌++◌, length, take, refl, ap, sym, subst, ◌∙◌, arith, append_assoc, length-append}
use Rattle.std.specs.Prelude.{nat_eq, if◌then◌else◌}
use Rattle.std.proofs.Math.Seq.{take-append_seam}
use Rattle.std.proofs.lemmas.Bool.{eqb-true, ne_eqb}
use Rattle.std.proofs.lemmas.List.{append-nil}
use Rattle.dk_grammar.specs.Reading.{Begins}
use Rattle.dk_grammar.specs.Lines.{onto_first, cut, AreLinesOf, IsFirstFaulty, IsPlain, line_count, IsAtLine}
use Rattle.dk_grammar.proofs.Faulty.{one_faulty, none_faulty}

pub one_first_faulty : (Text : List ℕ → Type 0) (text : List ℕ) (m n : ℕ) → IsFirstFaulty Text text m → IsFirstFaulty Text text n → m ≡ n
one_first_faulty Text text m n a b = a.1 ∙ ap (λ k. suc k) (one_faulty (AreLinesOf Text) (cut text) a.0 b.0 a.2 b.2) ∙ sym b.1

pub none_first_faulty : (Text : List ℕ → Type 0) (text : List ℕ) (n : ℕ) → Text text → IsFirstFaulty Text text n → ⊥
none_first_faulty Text text n whole f = none_faulty (AreLinesOf Text) (cut text) f.0 (text, whole, refl) f.2

-- the text of lines
abbrev joined : List (List ℕ) → List ℕ
joined [] = []
joined (line ∷ lines) = line ++ joined lines

joined_append : (xs ys : List (List ℕ)) → joined (xs ++ ys) ≡ joined xs ++ joined ys
joined_append [] ys = refl
joined_append (x ∷ xs) ys = ap (λ z. x ++ z) (joined_append xs ys) ∙ sym (append_assoc x (joined xs) (joined ys))

onto_joined : (b : ℕ) (lines : List (List ℕ)) → joined (onto_first b lines) ≡ b ∷ joined lines
onto_joined b [] = refl
onto_joined b (line ∷ lines) = refl

by_joined : (t : Bool) (b : ℕ) (text : List ℕ) (lines : List (List ℕ)) → nat_eq b 10 ≡ t → joined lines ≡ text → joined (if t then (10 ∷ []) ∷ lines else onto_first b lines) ≡ b ∷ text
by_joined true b text lines h i = ap (λ x. 10 ∷ x) i ∙ ap (λ x. x ∷ text) (sym (eqb-true b 10 h))
by_joined false b text lines h i = onto_joined b lines ∙ ap (λ x. b ∷ x) i

joined_cut : (text : List ℕ) → joined (cut text) ≡ text
joined_cut [] = refl
joined_cut (b ∷ text) = by_joined (nat_eq b 10) b text (cut text) refl (joined_cut text)

-- the lines of bytes and an LF
abbrev ended : List ℕ → List (List ℕ)
ended [] = (10 ∷ []) ∷ []
ended (b ∷ front) = if nat_eq b 10 then (10 ∷ []) ∷ ended front else onto_first b (ended front)

by_some : (t : Bool) (b : ℕ) (lines : List (List ℕ)) → (line : List ℕ) × (more : List (List ℕ)) × ((if t then (10 ∷ []) ∷ lines else onto_first b lines) ≡ line ∷ more)
by_some true b lines = (10 ∷ [], lines, refl)
by_some false b [] = (b ∷ [], [], refl)
by_some false b (line ∷ lines) = (b ∷ line, lines, refl)

some_line : (front : List ℕ) → (line : List ℕ) × (more : List (List ℕ)) × (ended front ≡ line ∷ more)
some_line [] = (10 ∷ [], [], refl)
some_line (b ∷ front) = by_some (nat_eq b 10) b (ended front)

onto_append : (b : ℕ) (xs ys : List (List ℕ)) → ((line : List ℕ) × (more : List (List ℕ)) × (xs ≡ line ∷ more)) → onto_first b (xs ++ ys) ≡ onto_first b xs ++ ys
onto_append b xs ys s = subst (λ z. onto_first b (z ++ ys) ≡ onto_first b z ++ ys) (sym s.2) refl

onto_length : (b : ℕ) (xs : List (List ℕ)) → ((line : List ℕ) × (more : List (List ℕ)) × (xs ≡ line ∷ more)) → length (onto_first b xs) ≡ length xs
onto_length b xs s = subst (λ z. length (onto_first b z) ≡ length z) (sym s.2) refl

cut_ended : (front rest : List ℕ) → cut (front ++ 10 ∷ rest) ≡ ended front ++ cut rest
cut_ended [] rest = refl
cut_ended (b ∷ front) rest = by (nat_eq b 10) (cut_ended front rest)
  where
    by : (t : Bool) → cut (front ++ 10 ∷ rest) ≡ ended front ++ cut rest
        → (if t then (10 ∷ []) ∷ cut (front ++ 10 ∷ rest) else onto_first b (cut (front ++ 10 ∷ rest))) ≡ (if t then (10 ∷ []) ∷ ended front else onto_first b (ended front)) ++ cut rest
    by true i = ap (λ z. (10 ∷ []) ∷ z) i
    by false i = ap (λ z. onto_first b z) i ∙ onto_append b (ended front) (cut rest) (some_line front)

ended_joined : (front : List ℕ) → joined (ended front) ≡ front ++ 10 ∷ []
ended_joined [] = refl
ended_joined (b ∷ front) = by_joined (nat_eq b 10) b (front ++ 10 ∷ []) (ended front) refl (ended_joined front)

ended_count : (front : List ℕ) → length (ended front) ≡ line_count (front ++ 10 ∷ [])
ended_count [] = refl
ended_count (b ∷ front) = by (nat_eq b 10) (ended_count front)
  where
    by : (t : Bool) → length (ended front) ≡ line_count (front ++ 10 ∷ [])
        → length (if t then (10 ∷ []) ∷ ended front else onto_first b (ended front)) ≡ (if t then suc (line_count (front ++ 10 ∷ [])) else line_count (front ++ 10 ∷ []))
    by true i = ap (λ n. suc n) i
    by false i = onto_length b (ended front) (some_line front) ∙ i

-- whole lines at the front of a text
record Whole (before : List ℕ) : Type 0 where
  lines : List (List ℕ)
  cuts : (rest : List ℕ) → cut (before ++ rest) ≡ lines ++ cut rest
  text : joined lines ≡ before
  count : length lines ≡ line_count before

whole_lines : (before : List ℕ) → (before ≡ []) ⊎ ((front : List ℕ) × (before ≡ front ++ 10 ∷ [])) → Whole before
whole_lines before (inl e) = subst (λ z. Whole z) (sym e) (record { lines = []; cuts = λ rest. refl; text = refl; count = refl })
whole_lines before (inr f) = subst (λ z. Whole z) (sym f.1) (record {
  lines = ended f.0;
  cuts = λ rest. ap (λ z. cut z) (append_assoc f.0 (10 ∷ []) rest) ∙ cut_ended f.0 rest;
  text = ended_joined f.0;
  count = ended_count f.0;
})

-- the first line of what is left, and the lines after it
ended_plain : (line : List ℕ) → IsPlain line → ended line ≡ (line ++ 10 ∷ []) ∷ []
ended_plain [] p = refl
ended_plain (b ∷ line) p =
    ap (λ t. if t then (10 ∷ []) ∷ ended line else onto_first b (ended line)) (ne_eqb b 10 p.0) ∙ ap (λ z. onto_first b z) (ended_plain line p.1)

cut_plain : (rest : List ℕ) → IsPlain rest → cut rest ≡ rest ∷ []
cut_plain [] p = refl
cut_plain (b ∷ rest) p = ap (λ t. if t then (10 ∷ []) ∷ cut rest else onto_first b (cut rest)) (ne_eqb b 10 p.0) ∙ ap (λ z. onto_first b z) (cut_plain rest p.1)

abbrev HasLine : List ℕ → Type 0
HasLine rest = (line : List ℕ) × (after : List ℕ) × IsPlain line × (rest ≡ line ++ 10 ∷ after)

differs : (b : ℕ) → nat_eq b 10 ≡ false → b ≡ 10 → ⊥
differs b h e = grind (arith, h, e)

first_line : (rest : List ℕ) → HasLine rest ⊎ IsPlain rest
first_line [] = inr tt
first_line (b ∷ rest) = by (nat_eq b 10) refl (first_line rest)
  where
    by : (t : Bool) → nat_eq b 10 ≡ t → HasLine rest ⊎ IsPlain rest → HasLine (b ∷ rest) ⊎ IsPlain (b ∷ rest)
    by true h s = inl ([], rest, tt, ap (λ z. z ∷ rest) (eqb-true b 10 h))
    by false h (inl l) = inl (b ∷ l.0, l.1, (differs b h, l.2), ap (λ z. b ∷ z) l.3)
    by false h (inr p) = inr (differs b h, p)

-- of the lines of a text only the last one has no LF
abbrev AreCut : List (List ℕ) → Type 0
AreCut [] = Unit {0}
AreCut (l ∷ []) = Unit {0}
AreCut (l ∷ m ∷ more) = (IsPlain l → ⊥) × AreCut (m ∷ more)

cut_more : (l : List ℕ) (ls : List (List ℕ)) → (IsPlain l → ⊥) → AreCut ls → AreCut (l ∷ ls)
cut_more l [] e a = tt
cut_more l (m ∷ ls) e a = (e, a)

onto_cut : (b : ℕ) (ls : List (List ℕ)) → AreCut ls → AreCut (onto_first b ls)
onto_cut b [] a = tt
onto_cut b (l ∷ []) a = tt
onto_cut b (l ∷ m ∷ ls) a = (λ p. a.0 p.1, a.1)

are_cut : (text : List ℕ) → AreCut (cut text)
are_cut [] = tt
are_cut (b ∷ text) = by (nat_eq b 10) (are_cut text)
  where
    by : (t : Bool) → AreCut (cut text) → AreCut (if t then (10 ∷ []) ∷ cut text else onto_first b (cut text))
    by true a = cut_more (10 ∷ []) (cut text) (λ p. p.0 refl) a
    by false a = onto_cut b (cut text) a

not_last : (xs : List (List ℕ)) (l m : List ℕ) (more : List (List ℕ)) → AreCut (xs ++ l ∷ m ∷ more) → IsPlain l → ⊥
not_last [] l m more a p = a.0 p
not_last (x ∷ []) l m more a p = a.1.0 p
not_last (x ∷ y ∷ xs) l m more a p = not_last (y ∷ xs) l m more a.1 p

-- some text of the language goes on with this line
abbrev GoesOn : (List ℕ → Type 0) → (lines : List (List ℕ)) → List ℕ → Type 0
GoesOn Text lines line = (more : List (List ℕ)) × (text : List ℕ) × Text text × (lines ++ line ∷ more ≡ cut text)

text_is : (lines : List (List ℕ)) (before line : List ℕ) (more : List (List ℕ)) (text : List ℕ) → joined lines ≡ before → lines ++ line ∷ more ≡ cut text → text ≡ before ++ (line ++ joined more)
text_is lines before line more text w e = sym (joined_cut text) ∙ ap (λ z. joined z) (sym e) ∙ joined_append lines (line ∷ more) ∙ ap (λ z. z ++ (line ++ joined more)) w

plain_ends : (Text : List ℕ → Type 0) (lines : List (List ℕ)) (before rest : List ℕ) → joined lines ≡ before → IsPlain rest → (Text (before ++ rest) → ⊥) → GoesOn Text lines rest → ⊥
plain_ends Text lines before rest w p none g = by g.0 g.3
  where
    by : (more : List (List ℕ)) → lines ++ rest ∷ more ≡ cut g.1 → ⊥
    by [] e = none (subst Text (text_is lines before rest [] g.1 w e ∙ ap (λ z. before ++ z) (append-nil rest)) g.2)
    by (m ∷ more) e = not_last lines rest m more (subst AreCut (sym e) (are_cut g.1)) p

-- a line after whole lines that begin a text, with which none goes on
here : (Text : List ℕ → Type 0) (text line : List ℕ) (number k : ℕ) (lines after : List (List ℕ)) → number ≡ suc k → length lines ≡ k → cut text ≡ lines ++ line ∷ after
    → Begins (AreLinesOf Text) lines → (GoesOn Text lines line → ⊥) → IsFirstFaulty Text text number
here Text text line number k lines after number_is count cuts begins none =
    let up : take (suc k) (cut text) ≡ lines ++ line ∷ [] =
    ap (λ z. take (suc k) z) (cuts ∙ sym (append_assoc lines (line ∷ []) after))
    ∙ ap (λ n. take n ((lines ++ line ∷ []) ++ after)) (one_more k count)
    ∙ take-append_seam (lines ++ line ∷ []) after in (
      k,
      number_is,
      record {
        inside = long count (ap (λ z. length z) cuts);
        before = subst (λ z. Begins (AreLinesOf Text) z) (sym (ap (λ z. take k z) cuts ∙ ap (λ n. take n (lines ++ line ∷ after)) (sym count) ∙ take-append_seam lines (line ∷ after))) begins;
        none = λ b. none (b.0, b.1.0, b.1.1, sym (append_assoc lines (line ∷ []) b.0) ∙ ap (λ z. z ++ b.0) (sym up) ∙ b.1.2);
      },
    )
  where
    one_more : (k : ℕ) → length lines ≡ k → suc k ≡ length (lines ++ line ∷ [])
    one_more k e = omega (arith, e, length-append lines (line ∷ []))

    long : length lines ≡ k → length (cut text) ≡ length (lines ++ line ∷ after) → k < length (cut text)
    long e f = omega (arith, e, f, length-append lines (line ∷ after))

-- The line is the first faulty one: some text of the language begins with the lines before it, none goes on with it, and the text is none.
pub faulty_at : (Text : List ℕ → Type 0) (text before rest : List ℕ) (number : ℕ) → IsAtLine text before rest number → ((more : List ℕ) × Text (before ++ more))
    → ((line after more : List ℕ) → IsPlain line → rest ≡ line ++ 10 ∷ after → Text (before ++ (line ++ 10 ∷ more)) → ⊥) → (Text text → ⊥) → IsFirstFaulty Text text number
faulty_at Text text before rest number at begins none no_text = by (first_line rest)
  where
    w : Whole before
    w = whole_lines before at.lines

    begun : Begins (AreLinesOf Text) w.lines
    begun = (cut begins.0, (before ++ begins.0, begins.1, sym (w.cuts begins.0)))

    cuts : cut text ≡ w.lines ++ cut rest
    cuts = ap (λ z. cut z) at.whole ∙ w.cuts rest

    by : HasLine rest ⊎ IsPlain rest → IsFirstFaulty Text text number
    by (inl l) =
        here Text text (l.0 ++ 10 ∷ []) number (line_count before) w.lines (cut l.1) at.number_is w.count
        (cuts ∙ ap (λ z. w.lines ++ z) (ap (λ z. cut z) l.3 ∙ cut_ended l.0 l.1 ∙ ap (λ z. z ++ cut l.1) (ended_plain l.0 l.2))) begun
        (λ g. none l.0 l.1 (joined g.0) l.2 l.3 (subst Text (text_is w.lines before (l.0 ++ 10 ∷ []) g.0 g.1 w.text g.3 ∙ ap (λ z. before ++ z) (append_assoc l.0 (10 ∷ []) (joined g.0))) g.2))
    by (inr p) =
        here Text text rest number (line_count before) w.lines [] at.number_is w.count (cuts ∙ ap (λ z. w.lines ++ z) (cut_plain rest p)) begun
        (plain_ends Text w.lines before rest w.text p (λ t. no_text (subst Text (sym at.whole) t)))
