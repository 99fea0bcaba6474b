-- Which classes of tokens can follow.
use Rattle.std.specs.Prelude.{◌≡◌, ◌≢◌, ◌≤◌, ◌⊎◌, List, [], ◌∷◌, ◌++◌}
use Rattle.std.specs.List.{All}
use Rattle.dk_base.specs.declared.span.Span.{Span}
use Rattle.dk_lexer.specs.declared.token.Token.{Token}
use Rattle.dk_lexer.specs.declared.token.TokenKind.TheVariants as kind
use Rattle.dk_grammar.specs.Reading.{Begins}
use Rattle.dk_parser.specs.Grammar.{Tokens}
use Rattle.dk_parser.specs.Judged.{IsProgram, IsFaultyAt}
use Rattle.dk_parser.specs.Nest.{StaysShallow, PassesAt}
use Rattle.expected_tokens.specs.declared.class.TokenClass.{TokenClass}
use Rattle.expected_tokens.specs.Classes.{behind_span, sample, behind}

-- a token as a text has before its end: its span is in order
pub record IsOfAText (t : Token) : Type 0 where
  pub ordered : t.span.start ≤ t.span.stop
  pub inside : t.kind ≢ kind.End

abbrev pub AreOfAText : Tokens → Type 0
AreOfAText ts = All IsOfAText ts

-- The tokens and then the sample of the class begin a program, and no more brackets are open than may be. The sample stands for each token of the class: no rule of the grammar tells them apart.
pub record CanFollow (before : Tokens) (c : TokenClass) : Type 0 where
  pub nests : StaysShallow 0 (before ++ sample c ∷ [])
  pub begins : Begins IsProgram (before ++ sample c ∷ [])

-- those of a list for which P holds, in order
pub data AreThose (P : TokenClass → Type 0) : List TokenClass → List TokenClass → Type 0 where
  none : AreThose P [] []
  taken : {c : TokenClass} {cs found : List TokenClass} → P c → AreThose P cs found → AreThose P (c ∷ cs) (c ∷ found)
  left : {c : TokenClass} {cs found : List TokenClass} → ¬ P c → AreThose P cs found → AreThose P (c ∷ cs) found

-- Used by private functions only.

-- the list grows by the class if P holds of it
abbrev pub Grows : (TokenClass → Type 0) → TokenClass → List TokenClass → List TokenClass → Type 0
Grows P c old new = (P c × (new ≡ old ++ c ∷ [])) ⊎ ((¬ P c) × (new ≡ old))

-- the tokens that are tried, and the end after them
abbrev pub tried : Tokens → TokenClass → Tokens
tried before c = before ++ sample c ∷ behind c

-- they are a program, or the faulty token is the end that was added
pub record GoesOn (ts : Tokens) : Type 0 where
  pub nests : StaysShallow 0 ts
  pub begins : IsProgram ts ⊎ IsFaultyAt ts behind_span

-- a bracket is one too many, or another token is the faulty one
abbrev pub StopsBefore : Tokens → Type 0
StopsBefore ts = ((span : Span) × PassesAt 0 ts span) ⊎ ((span : Span) × (span ≢ behind_span) × IsFaultyAt ts span)
