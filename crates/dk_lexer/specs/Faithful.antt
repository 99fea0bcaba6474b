-- What a list of tokens says of its text, in stretches of the text.
use Rattle.std.specs.Prelude.{◌≡◌, ◌≢◌, ◌≤◌, ℕ, List, [], ◌∷◌, ◌++◌, length, ⊤, true}
use Rattle.std.specs.List.{All, AllPass, Contains, slice_range}
use Rattle.std.specs.Str.Parse.{digits_value}
use Rattle.dk_lexer.specs.declared.token.Token.{Token}
use Rattle.dk_lexer.specs.declared.token.TokenKind.{TokenKind}
use Rattle.dk_lexer.specs.declared.token.TokenKind.TheVariants.{Word, Number, Symbol as Sym, End}
use Rattle.dk_base.specs.Ascii.{is_white, is_letter, is_digit, is_word_byte}
use Rattle.dk_lexer.specs.Bytes.{symbols}

-- a letter or `_`, and then letters, digits and `_`
abbrev pub IsWord : List ℕ → Type 0
IsWord [] = ⊥
IsWord (first ∷ bytes) = (is_letter first ≡ true) × AllPass is_word_byte bytes

-- digits, at least one
abbrev pub IsNumeral : List ℕ → Type 0
IsNumeral bytes = (bytes ≢ []) × AllPass is_digit bytes

-- the bytes write this kind of token; the end of the text has none
abbrev pub Writes : List ℕ → TokenKind → Type 0
Writes bytes (Word text) = (text ≡ bytes) × IsWord bytes
Writes bytes (Number value) = IsNumeral bytes × (digits_value 10 bytes ≡ value)
Writes bytes (Sym symbol) = Contains symbols (bytes, symbol)
Writes bytes End = bytes ≡ []

-- the token is within the text, which writes it there; the end of the text is at its length
pub record Stands (source : List ℕ) (token : Token) : Type 0 where
  pub ordered : token.span.start ≤ token.span.stop
  pub within : token.span.stop ≤ length source
  pub written : Writes (slice_range source token.span.start token.span.stop) token.kind
  pub last : token.kind ≡ End → token.span ≡ record { start = length source; stop = length source }

-- only white space and comments; a comment is `--` and the rest of its line, up to LF
pub data Blank : List ℕ → Type 0 where
  nothing : Blank []
  white : {b : ℕ} {rest : List ℕ} → is_white b ≡ true → Blank rest → Blank (b ∷ rest)
  comment : (line : List ℕ) {rest : List ℕ} → All (λ b. b ≢ 10) line → Blank (10 ∷ rest) → Blank (45 ∷ 45 ∷ (line ++ 10 ∷ rest))

-- the end of the text ends its last line, as LF would
abbrev pub with_line_end : TokenKind → List ℕ → List ℕ
with_line_end End bytes = bytes ++ 10 ∷ []
with_line_end _ bytes = bytes

-- the tokens are one after another from this byte on, and only white space and comments are between them
abbrev pub Follow : List ℕ → ℕ → List Token → Type 0
Follow source from [] = ⊤
Follow source from (token ∷ tokens) =
    (from ≤ token.span.start) × Blank (with_line_end token.kind (slice_range source from token.span.start)) × Follow source token.span.stop tokens

-- the last token is the end of the text, and no other is
abbrev pub IsEnded : List Token → Type 0
IsEnded [] = ⊥
IsEnded (token ∷ []) = token.kind ≡ End
IsEnded (token ∷ next ∷ tokens) = (token.kind ≢ End) × IsEnded (next ∷ tokens)

-- these tokens are what the text says
pub record IsFaithful (source : List ℕ) (tokens : List Token) : Type 0 where
  pub stand : All (Stands source) tokens
  pub follow : Follow source 0 tokens
  pub ended : IsEnded tokens
