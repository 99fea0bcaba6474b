-- What the grammar sees of one token, and where it sees nothing.
use Rattle.std.proofs.Common.{◌≡◌, ◌≢◌, List, [], ◌∷◌, Option, Some, None, false, refl, sym, ap, ◌∙◌, subst}
use Rattle.std.proofs.lemmas.Option.{same_Some}
use Rattle.dk_base.specs.declared.span.Span.{Span}
use Rattle.wiring.specs.declared.right.Atom.{Atom}
use Rattle.verilog_text.specs.declared.token.Token.{Token}
use Rattle.verilog_text.specs.declared.token.Symbol.TheVariants as symbol
use Rattle.verilog_text.specs.declared.token.Keyword.TheVariants as keyword
use Rattle.verilog_text.specs.declared.token.TokenKind.{TokenKind}
use Rattle.verilog_text.specs.declared.token.TokenKind.TheVariants as kind
use Rattle.verilog_parse.specs.declared.kind.Section.{Section}
use Rattle.verilog_parse.specs.declared.kind.Section.TheVariants as sections
use Rattle.dk_grammar.specs.Reading.{One, IsClass, Stuck}
use Rattle.dk_grammar.proofs.Clears.{first_same}
use Rattle.dk_grammar.proofs.Stucks.{stuck_one}
use Rattle.verilog_text.specs.Grammar.{named, atomic, counted, directed}
use Rattle.verilog_parse.specs.Forms.{Is, Gives, starting, item, following, colon_or_close}
use Rattle.verilog_parse.specs.Sections.{comma_or_close, heading, leading, tailing, arrowing, targeting, section_of, section_after, is_last}

abbrev pub here : Span
here = record { start = 0; stop = 0 }

abbrev pub of_kind : TokenKind → Token
of_kind k = record { span = here; kind = k }

pub is_class : (k : TokenKind) → IsClass (Is k)
is_class k = record { one = λ t v w p q. refl; token = of_kind k; value = tt; some = refl }

gives_class : {V : Type 0} (f : TokenKind → Span → Option V) (k : TokenKind) (v : V) → f k here ≡ Some v → IsClass (Gives f)
gives_class f k v e = record {
  one = λ t v w p q. same_Some v w (sym p ∙ q);
  token = of_kind k;
  value = v;
  some = e;
}

pub atom_class : IsClass (Gives atomic)
atom_class = gives_class atomic kind.Name _ refl

pub name_class : IsClass (Gives named)
name_class = gives_class named kind.Name _ refl

pub count_class : IsClass (Gives counted)
count_class = gives_class counted (kind.Plain 0) _ refl

pub start_class : IsClass (Gives starting)
start_class = gives_class starting kind.Name _ refl

pub item_class : IsClass (Gives item)
item_class = gives_class item kind.Name _ refl

pub follow_class : (a : Atom Span) → IsClass (Gives (λ k s. following a k))
follow_class a = gives_class (λ k s. following a k) (kind.Symbol symbol.Semicolon) _ refl

pub colon_or_close_class : IsClass (Gives (λ k s. colon_or_close k))
colon_or_close_class = gives_class (λ k s. colon_or_close k) (kind.Symbol symbol.Colon) _ refl

pub comma_or_close_class : IsClass (Gives (λ k s. comma_or_close k))
comma_or_close_class = gives_class (λ k s. comma_or_close k) (kind.Symbol symbol.Comma) _ refl

pub direction_class : IsClass (Gives (λ k s. directed k))
direction_class = gives_class (λ k s. directed k) (kind.Keyword keyword.Input) _ refl

pub head_class : IsClass (Gives heading)
head_class = gives_class heading kind.Name _ refl

pub lead_class : IsClass (Gives leading)
lead_class = gives_class leading kind.Name _ refl

pub tail_class : IsClass (Gives (λ k s. tailing k))
tail_class = gives_class (λ k s. tailing k) (kind.Symbol symbol.Semicolon) _ refl

pub arrow_class : IsClass (Gives (λ k s. arrowing k))
arrow_class = gives_class (λ k s. arrowing k) (kind.Symbol symbol.LessEqual) _ refl

pub target_class : IsClass (Gives targeting)
target_class = gives_class targeting kind.Name _ refl

pub section_class : IsClass (Gives (λ k s. section_of k))
section_class = gives_class (λ k s. section_of k) (kind.Keyword keyword.EndModule) _ refl

pub after_class : (m : Section) → is_last m ≡ false → IsClass (Gives (λ k s. section_after m k))
after_class sections.Wire h = gives_class (λ k s. section_after sections.Wire k) (kind.Keyword keyword.EndModule) sections.End refl
after_class sections.Reg h = gives_class (λ k s. section_after sections.Reg k) (kind.Keyword keyword.EndModule) sections.End refl
after_class sections.Assign h = gives_class (λ k s. section_after sections.Assign k) (kind.Keyword keyword.EndModule) sections.End refl
after_class sections.Always h = gives_class (λ k s. section_after sections.Always k) (kind.Keyword keyword.EndModule) sections.End refl
after_class sections.End h = absurd (cc)

-- the tokens `)`, `end` and `endmodule`
abbrev pub close : Token
close = of_kind (kind.Symbol symbol.Close)

abbrev pub end_word : Token
end_word = of_kind (kind.Keyword keyword.End)

abbrev pub last_word : Token
last_word = of_kind (kind.Keyword keyword.EndModule)

-- the token was taken
pub taken : {V : Type 0} (f : TokenKind → Span → Option V) (old new rest : List Token) (p t : Token) (v : V) → f kind.End p.span ≡ None → old ≡ p ∷ rest → (t.kind ≢ kind.End → old ≡ t ∷ new)
    → (t.kind ≡ kind.End → (old ≡ t ∷ []) × (new ≡ old)) → f p.kind p.span ≡ Some v → One (Gives f) old v new
taken f old new rest p t v n e next last g =
    let other : t.kind ≢ kind.End = λ k.
    let same : p ≡ t = first_same p t rest [] (sym e ∙ (last k).0) in
    let h : f kind.End p.span ≡ Some v = subst (λ x. f x p.span ≡ Some v) (ap (λ x. x.kind) same ∙ k) g in
    cc (n, h) in
    (t, next other, subst (λ x. f x.kind x.span ≡ Some v) (first_same p t rest new (sym e ∙ next other)) g)

pub taken_is : (k : TokenKind) (old new rest : List Token) (p t : Token) → k ≢ kind.End → old ≡ p ∷ rest → (t.kind ≢ kind.End → old ≡ t ∷ new)
    → (t.kind ≡ kind.End → (old ≡ t ∷ []) × (new ≡ old)) → p.kind ≡ k → One (Is k) old tt new
taken_is k old new rest p t n e next last g =
    let other : t.kind ≢ kind.End = λ h. n (sym g ∙ ap (λ x. x.kind) (first_same p t rest [] (sym e ∙ (last h).0)) ∙ h) in
    (t, next other, subst (λ x. x.kind ≡ k) (first_same p t rest new (sym e ∙ next other)) g)

-- there is another token
pub stuck_first : {V : Type 0} (f : TokenKind → Span → Option V) (ts r : List Token) (t : Token) → IsClass (Gives f) → ts ≡ t ∷ r → f t.kind t.span ≡ None → Stuck (One (Gives f)) ts ts
stuck_first f ts r t k e n = rw e (stuck_one {R = Gives f} (t ∷ r) k (λ v g. cc (n, g)))

pub stuck_other : (k : TokenKind) (ts r : List Token) (t : Token) → ts ≡ t ∷ r → t.kind ≢ k → Stuck (One (Is k)) ts ts
stuck_other k ts r t e n = rw e (stuck_one {R = Is k} (t ∷ r) (is_class k) (λ v g. n g))

pub ended : (ts : List Token) (t : Token) → ts ≡ t ∷ [] → t.kind ≡ kind.End → One (Is kind.End) ts tt []
ended ts t e k = (t, e, k)
