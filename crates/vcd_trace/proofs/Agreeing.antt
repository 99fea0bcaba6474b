-- Lines at the front of a text, and what may follow a front.
use Rattle.std.proofs.Common.{◌≡◌, ℕ, zero, suc, ◌+◌, ◌<◌, ◌≤◌, Bool, true, false, inl, inr, List, [], ◌∷◌, ◌++◌, length, map, refl, ap, sym, subst, ◌∙◌, arith, append_assoc}
use Rattle.std.specs.Prelude.{nat_eq, if◌then◌else◌, reverse}
use Rattle.std.specs.List.{AllByRecursion}
use Rattle.std.specs.Int.Digits.{digits_of}
use Rattle.std.proofs.lemmas.Bool.{ne_eqb}
use Rattle.netlist.specs.Names.{NamedNetlist}
use Rattle.cycle_sim.specs.Slots.{all_widths}
use Rattle.vcd_trace.specs.Layout.{AreValues, binary, id_of, value_line, text_of}
use Rattle.vcd_trace.specs.Header.{trace_text}
use Rattle.dk_grammar.specs.Lines.{IsPlain, IsAtLine, line_count}
use Rattle.dk_grammar.proofs.FaultyLines.{faulty_at}
use Rattle.vcd_trace.specs.Replayed.{IsTrace, IsFaultyLine}
use Rattle.vcd_trace.specs.Steps.{Agrees, Reads}
use Rattle.vcd_trace.proofs.Lines.{line_by, head_same, tail_same}

pub plain_append : (xs ys : List ℕ) → IsPlain xs → IsPlain ys → IsPlain (xs ++ ys)
plain_append [] ys h g = g
plain_append (x ∷ xs) ys h g = (h.0, plain_append xs ys h.1 g)

pub shifted_plain : (k : ℕ) (ds : List ℕ) → 10 < k → IsPlain (map (λ d. k + d) ds)
shifted_plain k [] h = tt
shifted_plain k (d ∷ ds) h = ((λ e. omega (arith, h, e)), shifted_plain k ds h)

id_plain : (i : ℕ) → IsPlain (id_of i)
id_plain zero = ((λ e. omega (arith, e)), tt)
id_plain (suc i) = shifted_plain 33 (reverse (digits_of 94 (suc i))) (omega arith)

binary_plain : (v : ℕ) → IsPlain (binary v)
binary_plain zero = ((λ e. omega (arith, e)), tt)
binary_plain (suc v) = shifted_plain 48 (digits_of 2 (suc v)) (omega arith)

by_plain : (b : Bool) (i v : ℕ) → IsPlain (line_by b i v)
by_plain true i v = ((λ e. omega (arith, e)), id_plain i)
by_plain false i v = ((λ e. omega (arith, e)), plain_append (binary v) (32 ∷ id_of i) (binary_plain v) ((λ e. omega (arith, e)), id_plain i))

pub value_plain : (w i v : ℕ) → IsPlain (value_line w i v)
value_plain w i v = by_plain (nat_eq w 1) i v

-- one line is at the front
pub plain_same : (l k a b : List ℕ) → IsPlain l → IsPlain k → l ++ 10 ∷ a ≡ k ++ 10 ∷ b → (l ≡ k) × (a ≡ b)
plain_same [] [] a b h g e = (refl, tail_same 10 10 a b e)
plain_same [] (y ∷ k) a b h g e = absurd (g.0 (sym (head_same 10 y a (k ++ 10 ∷ b) e)))
plain_same (x ∷ l) [] a b h g e = absurd (h.0 (head_same x 10 (l ++ 10 ∷ a) b e))
plain_same (x ∷ l) (y ∷ k) a b h g e =
    let more = plain_same l k a b h.1 g.1 (tail_same x y (l ++ 10 ∷ a) (k ++ 10 ∷ b) e) in
    (ap (λ z. z ∷ l) (head_same x y (l ++ 10 ∷ a) (k ++ 10 ∷ b) e) ∙ ap (λ z. y ∷ z) more.0, more.1)

pub line_form : (l a : List ℕ) → (l ++ 10 ∷ []) ++ a ≡ l ++ 10 ∷ a
line_form l a = append_assoc l (10 ∷ []) a

pub agree_front : (rest more l t : List ℕ) → Agrees rest more → IsPlain l → more ≡ l ++ 10 ∷ t → (a : List ℕ) × (rest ≡ (l ++ 10 ∷ []) ++ a)
agree_front rest more l t (inl e) p is = (t, sym e ∙ is ∙ sym (line_form l t))
agree_front rest more l t (inr s) p is =
    let same = plain_same s.line l s.behind t s.plain p (sym s.more_is ∙ is) in
    (s.after, s.rest_is ∙ ap (λ z. z ++ 10 ∷ s.after) same.0 ∙ sym (line_form l s.after))

pub agree_back : (rest more l a : List ℕ) → Agrees rest more → IsPlain l → rest ≡ (l ++ 10 ∷ []) ++ a → (t : List ℕ) × (more ≡ (l ++ 10 ∷ []) ++ t)
agree_back rest more l a (inl e) p is = (a, e ∙ is)
agree_back rest more l a (inr s) p is =
    let same = plain_same s.line l s.after a s.plain p (sym s.rest_is ∙ is ∙ line_form l a) in
    (s.behind, s.more_is ∙ ap (λ z. z ++ 10 ∷ s.behind) same.0 ∙ sym (line_form l s.behind))

front_nothing : (l t : List ℕ) → [] ≡ l ++ 10 ∷ t → ⊥
front_nothing [] t e = cc
front_nothing (x ∷ l) t e = cc

pub agree_nothing : (rest : List ℕ) → Agrees rest [] → rest ≡ []
agree_nothing rest (inl e) = sym e
agree_nothing rest (inr s) = absurd (front_nothing s.line s.behind s.more_is)

-- lines are counted
count_append : (xs ys : List ℕ) → line_count (xs ++ ys) ≡ line_count xs + line_count ys
count_append [] ys = omega arith
count_append (x ∷ xs) ys = by (nat_eq x 10) (count_append xs ys)
  where
    by : (b : Bool) → line_count (xs ++ ys) ≡ line_count xs + line_count ys → (if b then suc (line_count (xs ++ ys)) else line_count (xs ++ ys)) ≡ (if b then suc (line_count xs) else line_count xs) + line_count ys
    by true e = omega (arith, e)
    by false e = e

count_plain : (xs : List ℕ) → IsPlain xs → line_count xs ≡ 0
count_plain [] h = refl
count_plain (x ∷ xs) h = ap (λ b. if b then suc (line_count xs) else line_count xs) (ne_eqb x 10 h.0) ∙ count_plain xs h.1

pub next_line : (text before rest line after : List ℕ) (number : ℕ) → IsAtLine text before rest number → IsPlain line → rest ≡ (line ++ 10 ∷ []) ++ after → IsAtLine text (before ++ (line ++ 10 ∷ [])) after (number + 1)
next_line text before rest line after number at p e = record {
  whole = at.whole ∙ ap (λ z. before ++ z) e ∙ sym (append_assoc before (line ++ 10 ∷ []) after);
  lines = inr (before ++ line, sym (append_assoc before line (10 ∷ [])));
  number_is = omega (arith, at.number_is, count_append before (line ++ 10 ∷ []), count_append line (10 ∷ []), count_plain line p);
}

-- the line that was read
pub consume : (m : NamedNetlist) (text rest line after : List ℕ) (number : ℕ) {C D : Type 0} (F : C → Type 0) (G : D → Type 0) (lines : C → List (List ℕ)) (lines' : D → List (List ℕ)) (clocks : C → List (List ℕ)) (clocks' : D → List (List ℕ))
    → Reads m text rest number C F lines clocks → IsPlain line → rest ≡ (line ++ 10 ∷ []) ++ after
    → (up : D → C) → ((d : D) → G d → F (up d)) → ((d : D) → G d → lines (up d) ≡ line ∷ lines' d) → ((d : D) → clocks (up d) ≡ clocks' d)
    → ((more : List ℕ) (c : C) → F c → (line ++ 10 ∷ []) ++ more ≡ text_of (lines c) → (d : D) × G d × (more ≡ text_of (lines' d)) × (clocks c ≡ clocks' d))
    → Reads m text after (number + 1) D G lines' clocks'
consume m text rest line after number F G lines lines' clocks clocks' r p e up fits is told down = record {
  before = r.before ++ (line ++ 10 ∷ []);
  place = next_line text r.before rest line after number r.place p e;
  some = λ d g. subst (λ z. 1 ≤ length z) (told d) (r.some (up d) (fits d g));
  fit = λ d g. subst (λ z. AllByRecursion (AreValues (all_widths m.netlist)) z) (told d) (r.fit (up d) (fits d g));
  same = λ d g. append_assoc r.before (line ++ 10 ∷ []) (text_of (lines' d)) ∙ ap (λ z. r.before ++ z) (line_form line (text_of (lines' d))) ∙ ap (λ z. r.before ++ text_of z) (sym (is d g)) ∙ r.same (up d) (fits d g) ∙ ap (trace_text m) (told d);
  only = λ more agrees vs t.
      let found = r.only ((line ++ 10 ∷ []) ++ more) (inr (record { line = line; after = after; behind = more; plain = p; rest_is = e ∙ line_form line after; more_is = line_form line more })) vs
      (record { some = t.some; fit = t.fit; is = sym (append_assoc r.before (line ++ 10 ∷ []) more) ∙ t.is }) in
      let d = down more found.0 found.1 found.2 in
      (d.0, d.1, d.2, found.3 ∙ d.3);
}

-- the same place, stated in other words
pub relabel : (m : NamedNetlist) (text rest : List ℕ) (number : ℕ) {C D : Type 0} (F : C → Type 0) (G : D → Type 0) (lines : C → List (List ℕ)) (lines' : D → List (List ℕ)) (clocks : C → List (List ℕ)) (clocks' : D → List (List ℕ))
    → Reads m text rest number C F lines clocks
    → (up : D → C) → ((d : D) → G d → F (up d)) → ((d : D) → G d → lines (up d) ≡ lines' d) → ((d : D) → clocks (up d) ≡ clocks' d)
    → ((more : List ℕ) → Agrees rest more → (c : C) → F c → more ≡ text_of (lines c) → (d : D) × G d × (more ≡ text_of (lines' d)) × (clocks c ≡ clocks' d))
    → Reads m text rest number D G lines' clocks'
relabel m text rest number F G lines lines' clocks clocks' r up fits is told down = record {
  before = r.before;
  place = r.place;
  some = λ d g. subst (λ z. 1 ≤ length z) (told d) (r.some (up d) (fits d g));
  fit = λ d g. subst (λ z. AllByRecursion (AreValues (all_widths m.netlist)) z) (told d) (r.fit (up d) (fits d g));
  same = λ d g. ap (λ z. r.before ++ text_of z) (sym (is d g)) ∙ r.same (up d) (fits d g) ∙ ap (trace_text m) (told d);
  only = λ more agrees vs t.
      let found = r.only more agrees vs t in
      let d = down more agrees found.0 found.1 found.2 in
      (d.0, d.1, d.2, found.3 ∙ d.3);
}

-- a line that none of the lists has
pub faulty : (m : NamedNetlist) (text rest : List ℕ) (number : ℕ) {C : Type 0} (F : C → Type 0) (lines : C → List (List ℕ)) (clocks : C → List (List ℕ))
    → Reads m text rest number C F lines clocks → (c : C) → F c
    → ((more : List ℕ) → Agrees rest more → (c : C) → F c → more ≡ text_of (lines c) → ⊥)
    → IsFaultyLine m text number
faulty m text rest number F lines clocks r c f never =
    faulty_at (IsTrace m) text r.before rest number r.place
    (text_of (lines c), (clocks c, record { some = r.some c f; fit = r.fit c f; is = r.same c f }))
    (λ line after more p e t.
    let agrees : Agrees rest (line ++ 10 ∷ more) = inr (record { line = line; after = after; behind = more; plain = p; rest_is = e; more_is = refl }) in
    let found = r.only (line ++ 10 ∷ more) agrees t.0 t.1 in
    never (line ++ 10 ∷ more) agrees found.0 found.1 found.2)
    (λ t.
    let found = r.only rest (inl refl) t.0 (record { some = t.1.some; fit = t.1.fit; is = sym r.place.whole ∙ t.1.is }) in
    never rest (inl refl) found.0 found.1 found.2)
