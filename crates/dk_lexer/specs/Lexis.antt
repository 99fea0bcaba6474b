-- Tokens, and where a text has none.
use Rattle.std.specs.Prelude.{◌≡◌, ℕ, ◌+◌, ◌-◌, ◌^◌, List, [], ◌∷◌, length, take, drop, Option, Some, None, Result, Ok, Err, true, false, nat_lt, nat_eq, if◌then◌else◌}
use Rattle.std.specs.List.{prefix_len, find, starts_with}
use Rattle.dk_base.specs.declared.span.Span.{Span}
use Rattle.dk_base.specs.declared.TheConstants.{MAX_NAME_BYTES}
use Rattle.dk_lexer.specs.declared.token.Token.{Token}
use Rattle.dk_lexer.specs.declared.token.TokenKind.{TokenKind}
use Rattle.dk_lexer.specs.declared.token.TokenKind.TheVariants.{Word, Number, Symbol as Sym, End}
use Rattle.dk_lexer.specs.declared.token.Symbol.{Symbol}
use Rattle.dk_lexer.specs.declared.fault.LexKind.{LexKind}
use Rattle.dk_lexer.specs.declared.fault.LexKind.TheVariants.{BadByte, NumberTooGreat, NameTooLong}
use Rattle.dk_lexer.specs.declared.fault.LexFault.{LexFault}
use Rattle.dk_base.specs.Ascii.{is_white, is_letter, is_digit, is_word_byte, value_of}
use Rattle.dk_lexer.specs.Bytes.{is_in_line, symbols}

-- what is at the front of a text, and how many bytes it has
abbrev pub Lexeme : Type 0
Lexeme = Result (TokenKind × ℕ) (LexKind × ℕ)

-- the longest run of letters, digits and `_`
abbrev pub word_at : List ℕ → ℕ → Lexeme
word_at bytes n = if nat_lt MAX_NAME_BYTES n then Err (NameTooLong, n) else Ok (Word (take n bytes), n)

-- the longest run of digits
abbrev pub number_of : ℕ → ℕ → Lexeme
number_of v n = if nat_lt v (2 ^ 64) then Ok (Number v, n) else Err (NumberTooGreat, n)

abbrev pub symbol_of : Option (List ℕ × Symbol) → Lexeme
symbol_of None = Err (BadByte, 1)
symbol_of (Some row) = Ok (Sym row.1, length row.0)

-- the longest symbol, which is the first in the table that the bytes begin with
abbrev pub symbol_here : List ℕ → Lexeme
symbol_here bytes = symbol_of (find (λ row. starts_with nat_eq bytes row.0) symbols)

abbrev pub word_here : List ℕ → Lexeme
word_here bytes = word_at bytes (prefix_len is_word_byte bytes)

abbrev pub number_here : List ℕ → Lexeme
number_here bytes = number_of (value_of (take (prefix_len is_digit bytes) bytes)) (prefix_len is_digit bytes)

unfoldable pub lexeme : ℕ → List ℕ → Lexeme
lexeme a bs =
    if is_letter a then word_here (a ∷ bs)
    else (if is_digit a then number_here (a ∷ bs) else symbol_here (a ∷ bs))

-- Gap text rest: only white space and comments are in the text before the rest.
-- A comment goes from `--` to the end of its line, or of the text.
pub data Gap : List ℕ → List ℕ → Type 0 where
  none : {rest : List ℕ} → Gap rest rest
  white : {b : ℕ} {text rest : List ℕ} → is_white b ≡ true → Gap text rest → Gap (b ∷ text) rest
  comment : {line rest : List ℕ} → Gap (drop (prefix_len is_in_line line) line) rest → Gap (45 ∷ 45 ∷ line) rest

-- neither white space nor a comment begins here
abbrev pub Solid : List ℕ → Type 0
Solid [] = Unit {0}
Solid (a ∷ []) = is_white a ≡ false
Solid (a ∷ b ∷ bs) = (is_white a ≡ false) × (a ≡ 45 → b ≡ 45 → ⊥)

-- the n bytes where this much of the whole text is left
abbrev pub span_at : ℕ → List ℕ → ℕ → Span
span_at total left n = record { start = total - length left; stop = total - length left + n }

-- Lexes total text tokens: these are the tokens of what is left of a text of this many bytes.
pub data Lexes (total : ℕ) : List ℕ → List Token → Type 0 where
  finish : {text : List ℕ} → Gap text [] → Lexes total text (record { span = record { start = total; stop = total }; kind = End } ∷ [])
  next : {text bs : List ℕ} {a n : ℕ} {kind : TokenKind} {tokens : List Token} → Gap text (a ∷ bs) → Solid (a ∷ bs) → lexeme a bs ≡ Ok (kind, n)
      → Lexes total (drop n (a ∷ bs)) tokens
      → Lexes total text (record { span = span_at total (a ∷ bs) n; kind = kind } ∷ tokens)

-- Refused total text fault: this is the first fault in what is left of a text of this many bytes.
pub data Refused (total : ℕ) : List ℕ → LexFault → Type 0 where
  here : {text bs : List ℕ} {a n : ℕ} {kind : LexKind} → Gap text (a ∷ bs) → Solid (a ∷ bs) → lexeme a bs ≡ Err (kind, n)
      → Refused total text (record { span = span_at total (a ∷ bs) n; kind = kind })
  later : {text bs : List ℕ} {a n : ℕ} {kind : TokenKind} {fault : LexFault} → Gap text (a ∷ bs) → Solid (a ∷ bs) → lexeme a bs ≡ Ok (kind, n)
      → Refused total (drop n (a ∷ bs)) fault
      → Refused total text fault

-- the tokens of a whole text
abbrev pub HasTokens : List ℕ → List Token → Type 0
HasTokens text tokens = Lexes (length text) text tokens

-- the first fault of a whole text
abbrev pub HasFault : List ℕ → LexFault → Type 0
HasFault text fault = Refused (length text) text fault
