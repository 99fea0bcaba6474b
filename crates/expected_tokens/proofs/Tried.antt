-- What the judgement of the tokens that are tried says of the class.
use Rattle.std.proofs.Common.{◌≡◌, ◌≢◌, ◌≤◌, ◌<◌, ◌⊎◌, inl, inr, ◌↔◌, ℕ, suc, Bool, true, false, IsTrue, MatchBool, [], ◌∷◌, ◌++◌, length, length-append, take, arith, refl, sym, ap, ◌∙◌, subst, append_assoc}
use Rattle.std.proofs.lemmas.Bool.{cases_lt}
use Rattle.std.specs.List.{AllByRecursion}
use Rattle.std.proofs.lemmas.List.Elements.{recursion_from_All}
use Rattle.dk_base.specs.declared.span.Span.{Span}
use Rattle.dk_lexer.specs.declared.token.Token.{Token}
use Rattle.dk_lexer.specs.Faithful.{IsEnded}
use Rattle.dk_grammar.specs.Reading.{Begins}
use Rattle.dk_grammar.proofs.Faulty.{begins_before}
use Rattle.dk_grammar.proofs.Clears.{append_nil}
use Rattle.dk_parser.specs.Grammar.{Tokens}
use Rattle.dk_parser.specs.Terminals.{terminal, terminal_of}
use Rattle.dk_parser.specs.declared.whole.ParseError.{ParseError}
use Rattle.dk_parser.specs.declared.whole.ParseError.TheVariants.{Nest, Syntax, Depth}
use Rattle.dk_parser.specs.Programs.{Source}
use Rattle.dk_parser.specs.Judged.{IsProgram, IsFaultyAt, StandsAt, Accepted, Faults}
use Rattle.dk_parser.specs.Nest.{StaysShallow, unclosed}
use Rattle.dk_parser.proofs.Ending.{not_both}
use Rattle.expected_tokens.specs.declared.class.TokenClass.{TokenClass}
use Rattle.expected_tokens.specs.declared.class.TokenClass.TheVariants as class
use Rattle.expected_tokens.specs.Classes.{behind_span, sample, behind}
use Rattle.expected_tokens.specs.Expected.{IsOfAText, AreOfAText, CanFollow, tried, GoesOn, StopsBefore}

abbrev AreInside : Tokens → Type 0
AreInside ts = AllByRecursion IsOfAText ts

-- They end as a text's do.
ended_alone : (c : TokenClass) → IsEnded (sample c ∷ behind c)
ended_alone (class.Keyword k) = (λ e. cc (e), refl)
ended_alone class.Type = (λ e. cc (e), refl)
ended_alone class.Name = (λ e. cc (e), refl)
ended_alone class.Number = (λ e. cc (e), refl)
ended_alone (class.Symbol s) = (λ e. cc (e), refl)
ended_alone class.EndOfText = refl

ended_after : (ts : Tokens) (c : TokenClass) → AreInside ts → IsEnded (tried ts c)
ended_after [] c a = ended_alone c
ended_after (t ∷ []) c a = (a.0.inside, ended_alone c)
ended_after (t ∷ u ∷ ts) c a = (a.0.inside, ended_after (u ∷ ts) c a.1)

pub ended : (ts : Tokens) (c : TokenClass) → AreOfAText ts → IsEnded (tried ts c)
ended ts c a = ended_after ts c (recursion_from_All IsOfAText ts a)

-- The end that is added opens no bracket.
deeper : (n : ℕ) (c : TokenClass) → StaysShallow n (sample c ∷ []) → StaysShallow n (sample c ∷ behind c)
unfolding terminal_of
deeper n (class.Keyword k) s = (s.0, (s.1, s.1))
deeper n class.Type s = (s.0, (s.1, s.1))
deeper n class.Name s = (s.0, (s.1, s.1))
deeper n class.Number s = (s.0, (s.1, s.1))
deeper n (class.Symbol k) s = (s.0, (s.1, s.1))
deeper n class.EndOfText s = s

flatter : (n : ℕ) (c : TokenClass) → StaysShallow n (sample c ∷ behind c) → StaysShallow n (sample c ∷ [])
flatter n (class.Keyword k) s = (s.0, s.1.0)
flatter n class.Type s = (s.0, s.1.0)
flatter n class.Name s = (s.0, s.1.0)
flatter n class.Number s = (s.0, s.1.0)
flatter n (class.Symbol k) s = (s.0, s.1.0)
flatter n class.EndOfText s = s

all_deeper : (n : ℕ) (ts : Tokens) (c : TokenClass) → StaysShallow n (ts ++ sample c ∷ []) → StaysShallow n (tried ts c)
all_deeper n [] c s = deeper n c s
all_deeper n (t ∷ ts) c s = (s.0, all_deeper (unclosed n (terminal t)) ts c s.1)

all_flatter : (n : ℕ) (ts : Tokens) (c : TokenClass) → StaysShallow n (tried ts c) → StaysShallow n (ts ++ sample c ∷ [])
all_flatter n [] c s = flatter n c s
all_flatter n (t ∷ ts) c s = (s.0, all_flatter (unclosed n (terminal t)) ts c s.1)

-- No token up to the sample has the span of the end that is added.
not_here : (ts : Tokens) (c : TokenClass) (rest before : Tokens) (tok : Token) (after : Tokens) → AreInside ts
    → ts ++ sample c ∷ rest ≡ before ++ tok ∷ after → length before ≤ length ts → tok.span ≡ behind_span → ⊥
not_here [] c rest [] tok after a e h s =
    let same : sample c ≡ tok = cc in
    let one : 1 ≡ 2 = ap (λ x. x.span.start) same ∙ ap (λ x. x.start) s in
    omega (arith, one)
not_here [] c rest (u ∷ before) tok after a e h s = omega (arith, h)
not_here (t ∷ ts) c rest [] tok after a e h s =
    let same : t ≡ tok = cc in
    let span : t.span ≡ behind_span = ap (λ x. x.span) same ∙ s in
    let starts : t.span.start ≡ 2 = ap (λ x. x.start) span in
    let stops : t.span.stop ≡ 0 = ap (λ x. x.stop) span in
    omega (arith, starts, stops, a.0.ordered)
not_here (t ∷ ts) c rest (u ∷ before) tok after a e h s =
    let same : ts ++ sample c ∷ rest ≡ before ++ tok ∷ after = cc in
    not_here ts c rest before tok after a.1 same (omega (arith, h)) s

-- The token after the sample is that end.
is_behind : (ts : Tokens) (x y : Token) (before : Tokens) (tok : Token) (after : Tokens)
    → ts ++ x ∷ y ∷ [] ≡ before ++ tok ∷ after → length before ≡ suc (length ts) → y ≡ tok
is_behind [] x y [] tok after e h = absurd (omega (arith, h))
is_behind [] x y (u ∷ []) tok after e h = cc
is_behind [] x y (u ∷ v ∷ before) tok after e h = absurd (omega (arith, h))
is_behind (t ∷ ts) x y [] tok after e h = absurd (omega (arith, h))
is_behind (t ∷ ts) x y (u ∷ before) tok after e h =
    let same : ts ++ x ∷ y ∷ [] ≡ before ++ tok ∷ after = cc in
    is_behind ts x y before tok after same (omega (arith, h))

take_sample : (ts : Tokens) (x : Token) (rest : Tokens) → take (suc (length ts)) (ts ++ x ∷ rest) ≡ ts ++ x ∷ []
take_sample [] x rest = refl
take_sample (t ∷ ts) x rest = ap (λ y. t ∷ y) (take_sample ts x rest)

-- what begins a program still does when the end is left out
shorter : (ts : Tokens) (c : TokenClass) → Begins IsProgram (tried ts c) → Begins IsProgram (ts ++ sample c ∷ [])
shorter ts c b =
    (behind c ++ b.0, subst IsProgram (append_assoc (ts ++ sample c ∷ []) (behind c) b.0) (subst (λ x. IsProgram (x ++ b.0)) (sym (append_assoc ts (sample c ∷ []) (behind c))) b.1))

begun : (ts : Tokens) (c : TokenClass) → AreInside ts → IsProgram (tried ts c) ⊎ IsFaultyAt (tried ts c) behind_span → Begins IsProgram (ts ++ sample c ∷ [])
begun ts c a (inl p) = shorter ts c ([], subst IsProgram (sym (append_nil (tried ts c))) p)
begun ts c a (inr f) = elim (cases_lt (length ts) f.index) [
  | inl lt ↦ subst (Begins IsProgram) (take_sample ts (sample c) (behind c)) (begins_before IsProgram (suc (length ts)) f.index (tried ts c) (omega (arith, lt)) f.faulty.before)
  | inr le ↦ absurd (not_here ts c (behind c) f.stands.before f.stands.tok f.stands.after a f.stands.whole (omega (arith, le, f.stands.index)) f.stands.is_there)
]

pub goes_on : (ts : Tokens) (c : TokenClass) → AreOfAText ts → GoesOn (tried ts c) → CanFollow ts c
goes_on ts c a g = record {
  nests = all_flatter 0 ts c g.nests;
  begins = begun ts c (recursion_from_All IsOfAText ts a) g.begins;
}

-- Another faulty token than that end is not after the sample.
place_alone : (ts : Tokens) (k : ℕ) (x : Token) → k < length (ts ++ x ∷ []) → k ≤ length ts
place_alone ts k x lt = let whole = length-append ts (x ∷ []) in omega (arith, lt, whole)

place_before : (ts : Tokens) (x y : Token) (span : Span) (k : ℕ) → span ≢ y.span → StandsAt (ts ++ x ∷ y ∷ []) k span → k < length (ts ++ x ∷ y ∷ []) → k ≤ length ts
place_before ts x y span k n s lt = elim (cases_lt (length ts) k) [
  | inl more ↦
      let whole = length-append ts (x ∷ y ∷ []) in
      let same = is_behind ts x y s.before s.tok s.after s.whole (omega (arith, lt, whole, more, s.index)) in
      absurd (n (sym s.is_there ∙ ap (λ t. t.span) (sym same)))
  | inr le ↦ le
]

place : (ts : Tokens) (c : TokenClass) (span : Span) → span ≢ behind_span → (f : IsFaultyAt (tried ts c) span) → f.index ≤ length ts
place ts (class.Keyword k) span n f = place_before ts (sample (class.Keyword k)) _ span f.index n f.stands f.faulty.inside
place ts class.Type span n f = place_before ts (sample class.Type) _ span f.index n f.stands f.faulty.inside
place ts class.Name span n f = place_before ts (sample class.Name) _ span f.index n f.stands f.faulty.inside
place ts class.Number span n f = place_before ts (sample class.Number) _ span f.index n f.stands f.faulty.inside
place ts (class.Symbol s) span n f = place_before ts (sample (class.Symbol s)) _ span f.index n f.stands f.faulty.inside
place ts class.EndOfText span n f = place_alone ts f.index (sample class.EndOfText) f.faulty.inside

pub stops_before : (ts : Tokens) (c : TokenClass) → StopsBefore (tried ts c) → CanFollow ts c → ⊥
stops_before ts c (inl p) f = not_both 0 (tried ts c) p.0 (all_deeper 0 ts c f.nests) p.1
stops_before ts c (inr p) f =
    p.2.faulty.none (begins_before IsProgram (suc p.2.index) (suc (length ts)) (tried ts c) (omega (arith, place ts c p.0 p.1 p.2))
    (subst (Begins IsProgram) (sym (take_sample ts (sample c) (behind c))) f.begins))

-- What the parser returns.
pub accepted : (ts : Tokens) (p : Source) → Accepted ts p → GoesOn ts
accepted ts p a = record { nests = a.nests; begins = inl (p, a.derives) }

pub deep : (ts : Tokens) (e : ParseError) (span : Span) → e ≡ Depth span → Faults ts e → GoesOn ts
deep ts e span is f = let g : Faults ts (Depth span) = subst (Faults ts) is f in record { nests = g.0; begins = inl (g.1.program, g.1.derives) }

pub faulty_behind : (ts : Tokens) (e : ParseError) (span : Span) → e ≡ Syntax span → span ≡ behind_span → Faults ts e → GoesOn ts
faulty_behind ts e span is there f =
    let g : Faults ts (Syntax span) = subst (Faults ts) is f in record { nests = g.0; begins = inr (subst (IsFaultyAt ts) there g.1) }

pub faulty_before : (ts : Tokens) (e : ParseError) (span : Span) → e ≡ Syntax span → span ≢ behind_span → Faults ts e → StopsBefore ts
faulty_before ts e span is other f = let g : Faults ts (Syntax span) = subst (Faults ts) is f in inr (span, other, g.1)

pub nested : (ts : Tokens) (e : ParseError) (span : Span) → e ≡ Nest span → Faults ts e → StopsBefore ts
nested ts e span is f = inl (span, subst (Faults ts) is f)

-- the judgement as a truth value
pub judged : (ts : Tokens) (c : TokenClass) (b : Bool) → AreOfAText ts → MatchBool b (GoesOn (tried ts c)) (StopsBefore (tried ts c)) → IsTrue b ↔ CanFollow ts c
judged ts c true a g = (λ e. goes_on ts c a g, λ f. refl)
judged ts c false a s = (λ e. absurd (cc (e)), λ f. absurd (stops_before ts c s f))
