-- A text has one source, or one fault of its tokens and its grammar, and never both.
use Rattle.std.proofs.Common.{◌≡◌, ◌≢◌, ◌++◌, ℕ, List, [], ◌∷◌, Some, length, slice_get, refl, sym, ap, ◌∙◌, subst, Ok, Err, Result, MatchResult, IfOk, IsErrAnd}
use Rattle.dk_base.specs.declared.span.Span.{Span}
use Rattle.dk_grammar.specs.Reading.{Stuck, IsFaulty}
use Rattle.dk_grammar.proofs.Clears.{first_same, rest_same}
use Rattle.dk_grammar.proofs.Stucks.{faulty}
use Rattle.dk_grammar.proofs.Faulty.{one_faulty, none_faulty}
use Rattle.verilog_text.specs.declared.token.Token.{Token}
use Rattle.verilog_text.specs.declared.token.LexFault.{LexFault}
use Rattle.verilog_text.specs.declared.token.Keyword.TheVariants as keyword
use Rattle.verilog_text.specs.declared.token.TokenKind.{TokenKind}
use Rattle.verilog_text.specs.declared.token.TokenKind.TheVariants as kind
use Rattle.verilog_text.specs.declared.fault.TextFault.{TextFault}
use Rattle.verilog_text.specs.declared.fault.TextFault.TheVariants.{Lex, Syntax, NotInSubset, Limit, Net}
use Rattle.verilog_text.specs.declared.fault.TextError.{TextError}
use Rattle.verilog_text.specs.declared.fault.TextError.TheVariants.{Fault, OutOfMemory}
use Rattle.verilog_text.specs.declared.written.Written.{Written}
use Rattle.verilog_text.specs.Lexis.{HasTokens, HasLexFault}
use Rattle.verilog_text.specs.Grammar.{named as named_as, Source, source_of, Module, whole}
use Rattle.verilog_text.specs.Stands.{IsWritten}
use Rattle.verilog_text.specs.Faults.{IsModule, IsFaultyToken, IsErrorBy}
use Rattle.verilog_parse.specs.Fault.{IsParseFault, fault_of, fault_at}
use Rattle.verilog_parse.specs.Sections.{AModule}
use Rattle.verilog_parse.specs.Named.{IsNamedSource}
use Rattle.verilog_parse.proofs.NamedParts.{written_named}
use Rattle.verilog_parse.proofs.AgreeModule.{to_module, faulty_module}

-- the token after these
token_behind : (xs ys : List Token) (t : Token) → slice_get (xs ++ t ∷ ys) (length xs) ≡ Some t
token_behind [] ys t = refl
token_behind (x ∷ xs) ys t = token_behind xs ys t

pub faulty_token : (text : List ℕ) (ts at rest : List Token) (t : Token) → HasTokens text ts → Stuck AModule ts at → at ≡ t ∷ rest → IsFaultyToken text t
faulty_token text ts at rest t h s e =
    let k : Stuck AModule ts (t ∷ rest) = subst (λ x. Stuck AModule ts x) e s in
    record {
      tokens = ts;
      has_tokens = h;
      index = length k.taken;
      faulty = faulty_module ts (length k.taken) (faulty AModule ts rest t k);
      at = subst (λ x. slice_get x (length k.taken) ≡ Some t) (sym k.whole) (token_behind k.taken rest t);
    }

fault_is : (text : List ℕ) (k : TokenKind) (t : Token) → t.kind ≡ k → IsFaultyToken text t → IsParseFault text (fault_of k t.span)
fault_is text kind.Refused t e f = record { token = t; faulty = f; spanned = refl; refused = e }
fault_is text kind.Name t e f = record { token = t; faulty = f; spanned = refl; allowed = λ r. cc (e, r) }
fault_is text kind.Clock t e f = record { token = t; faulty = f; spanned = refl; allowed = λ r. cc (e, r) }
fault_is text (kind.Keyword w) t e f = record { token = t; faulty = f; spanned = refl; allowed = λ r. cc (e, r) }
fault_is text (kind.Plain v) t e f = record { token = t; faulty = f; spanned = refl; allowed = λ r. cc (e, r) }
fault_is text (kind.Sized c) t e f = record { token = t; faulty = f; spanned = refl; allowed = λ r. cc (e, r) }
fault_is text (kind.Symbol s) t e f = record { token = t; faulty = f; spanned = refl; allowed = λ r. cc (e, r) }
fault_is text kind.End t e f = record { token = t; faulty = f; spanned = refl; allowed = λ r. cc (e, r) }

pub parse_fault : (text : List ℕ) (ts at rest : List Token) (t : Token) → HasTokens text ts → Stuck AModule ts at → at ≡ t ∷ rest → IsParseFault text (fault_at t)
parse_fault text ts at rest t h s e = fault_is text t.kind t refl (faulty_token text ts at rest t h s e)

pub is_written : (text : List ℕ) (ts : List Token) (s : Source) → HasTokens text ts → AModule ts s [] → IsWritten text s
is_written text ts s h m = record { tokens = ts; has_tokens = h; is_module = to_module m }

-- the laws of one reading
pub record OneReading : Type 0 where
  pub tokens : (text : List ℕ) (a b : List Token) → HasTokens text a → HasTokens text b → a ≡ b
  pub fault : (text : List ℕ) (f g : LexFault) → HasLexFault text f → HasLexFault text g → f ≡ g
  pub apart : (text : List ℕ) (a : List Token) (f : LexFault) → HasTokens text a → HasLexFault text f → ⊥
  pub source : (tokens : List Token) (s t : Source) → Module tokens s → Module tokens t → s ≡ t

same_token : OneReading → (text : List ℕ) (t u : Token) → IsFaultyToken text t → IsFaultyToken text u → t ≡ u
same_token l text t u a b =
    let e = l.tokens text b.tokens a.tokens b.has_tokens a.has_tokens in
    let i : a.index ≡ b.index = one_faulty IsModule a.tokens a.index b.index a.faulty (subst (λ x. IsFaulty IsModule x b.index) e b.faulty) in
    let f : slice_get a.tokens b.index ≡ Some u = subst (λ x. slice_get x b.index ≡ Some u) e b.at in
    let g : slice_get a.tokens b.index ≡ Some t = subst (λ x. slice_get a.tokens x ≡ Some t) i a.at in
    cc (f, g)

not_faulty : OneReading → (text : List ℕ) (s : Source) (t : Token) → IsWritten text s → IsFaultyToken text t → ⊥
not_faulty l text s t w f =
    let e = l.tokens text w.tokens f.tokens w.has_tokens f.has_tokens in
    none_faulty IsModule f.tokens f.index (s, subst (λ x. Module x s) e w.is_module) f.faulty

pub no_fault : OneReading → (text : List ℕ) (s : Source) (f : TextFault) → IsWritten text s → IsParseFault text f → ⊥
no_fault l text s (Lex f) w h = l.apart text w.tokens f w.has_tokens h
no_fault l text s (Syntax x) w h = not_faulty l text s h.token w h.faulty
no_fault l text s (NotInSubset x) w h = not_faulty l text s h.token w h.faulty
no_fault l text s (Limit f) w h = h
no_fault l text s (Net x f) w h = h

same_span : (t u : Token) (a b : Span) → t ≡ u → t.span ≡ a → u.span ≡ b → a ≡ b
same_span t u a b e p q = sym p ∙ ap (λ x. x.span) e ∙ q

pub one_fault : OneReading → (text : List ℕ) (f g : TextFault) → IsParseFault text f → IsParseFault text g → f ≡ g
one_fault l text (Lex f) (Lex g) a b = ap (λ x. Lex x) (l.fault text f g a b)
one_fault l text (Lex f) (Syntax y) a b = absurd (l.apart text b.faulty.tokens f b.faulty.has_tokens a)
one_fault l text (Lex f) (NotInSubset y) a b = absurd (l.apart text b.faulty.tokens f b.faulty.has_tokens a)
one_fault l text (Syntax x) (Lex g) a b = absurd (l.apart text a.faulty.tokens g a.faulty.has_tokens b)
one_fault l text (Syntax x) (Syntax y) a b = ap (λ z. Syntax z) (same_span a.token b.token x y (same_token l text a.token b.token a.faulty b.faulty) a.spanned b.spanned)
one_fault l text (Syntax x) (NotInSubset y) a b = absurd (a.allowed (ap (λ z. z.kind) (same_token l text a.token b.token a.faulty b.faulty) ∙ b.refused))
one_fault l text (NotInSubset x) (Lex g) a b = absurd (l.apart text a.faulty.tokens g a.faulty.has_tokens b)
one_fault l text (NotInSubset x) (Syntax y) a b = absurd (b.allowed (ap (λ z. z.kind) (same_token l text b.token a.token b.faulty a.faulty) ∙ a.refused))
one_fault l text (NotInSubset x) (NotInSubset y) a b = ap (λ z. NotInSubset z) (same_span a.token b.token x y (same_token l text a.token b.token a.faulty b.faulty) a.spanned b.spanned)
one_fault l text (Limit f) g a b = absurd a
one_fault l text (Net x f) g a b = absurd a
one_fault l text f (Limit g) a b = absurd b
one_fault l text f (Net x g) a b = absurd b

-- the answers of a call
abbrev Answers : List ℕ → Result Written TextError → Type 0
Answers text r = MatchResult r (λ w. IsWritten text (source_of w)) (IsErrorBy (IsParseFault text))

pub accepts : OneReading → (text : List ℕ) (r : Result Written TextError) → Answers text r → (s : Source) → IsWritten text s → MatchResult r (λ w. source_of w ≡ s) (λ e. e ≡ OutOfMemory)
accepts l text (Ok w) a s h =
    let e = l.tokens text a.tokens h.tokens a.has_tokens h.has_tokens in
    l.source h.tokens (source_of w) s (subst (λ x. Module x (source_of w)) e a.is_module) h.is_module
accepts l text (Err (Fault f)) a s h = absurd (no_fault l text s f h a)
accepts l text (Err OutOfMemory) a s h = refl

pub refuses : OneReading → (text : List ℕ) (r : Result Written TextError) → Answers text r → (f : TextFault) → IsParseFault text f → IsErrAnd r (IsErrorBy (λ g. g ≡ f))
refuses l text (Ok w) a f h = no_fault l text (source_of w) f a h
refuses l text (Err (Fault g)) a f h = one_fault l text g f a h
refuses l text (Err OutOfMemory) a f h = tt

pub named : (text : List ℕ) (r : Result Written TextError) → Answers text r → IfOk r (λ w. IsNamedSource text (source_of w))
named text (Ok w) a = written_named text (source_of w) a
named text (Err e) a = tt

-- the second token is the name
name_here : (t : Token) (k : TokenKind) (n : Span) → t.kind ≡ k → named_as k t.span ≡ Some n → t.span ≡ n
name_here t kind.Name n e h = let f : Some t.span ≡ Some n = h in cc
name_here t kind.Clock n e h = let f : Some t.span ≡ Some n = h in cc
name_here t (kind.Keyword w) n e h = absurd (cc)
name_here t kind.Refused n e h = absurd (cc)
name_here t (kind.Plain v) n e h = absurd (cc)
name_here t (kind.Sized c) n e h = absurd (cc)
name_here t (kind.Symbol s) n e h = absurd (cc)
name_here t kind.End n e h = absurd (cc)

pub name_is : {ts new rest : List Token} {s : Source} (first second : Token) → Module ts s → (first.kind ≢ kind.End → ts ≡ first ∷ new) → (first.kind ≡ kind.End → (ts ≡ first ∷ []) × (new ≡ ts)) → new ≡ second ∷ rest → second.span ≡ s.name
name_is {ts = ts} {new = new} first second (whole {m = m} {t = t} {opens = o} {ts = more} {n = n} mk nk ok pk sk d a b ek) next last e =
    let other : first.kind ≢ kind.End = λ h.
    let same : m ≡ first = first_same m first (t ∷ o ∷ more) [] ((last h).0) in
    let bad : kind.Keyword keyword.Module ≡ kind.End = sym mk ∙ ap (λ x. x.kind) same ∙ h in
    cc in
    let both : m ∷ t ∷ o ∷ more ≡ first ∷ new = next other in
    let behind : t ∷ o ∷ more ≡ second ∷ _ = rest_same m first (t ∷ o ∷ more) new both ∙ e in
    let same : t ≡ second = first_same t second (o ∷ more) _ behind in
    ap (λ x. x.span) (sym same) ∙ name_here t t.kind n refl nk
