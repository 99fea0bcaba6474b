-- Tokens, and where a text has none.
use Rattle.std.specs.Prelude.{◌≡◌, ℕ, ◌+◌, ◌-◌, ◌^◌, List, [], ◌∷◌, length, take, drop, Option, Some, None, Result, Ok, Err, Bool, true, false, ◌&&◌, nat_lt, nat_eq, if◌then◌else◌, codes}
use Rattle.std.specs.List.{prefix_len, find, starts_with}
use Rattle.dk_base.specs.declared.TheConstants.{MAX_NAME_BYTES}
use Rattle.dk_base.specs.declared.span.Span.{Span}
use Rattle.net_names.specs.Words.{is_letter, is_digit, is_word_byte}
use Rattle.wiring.specs.Sizes.{SizedNumber}
use Rattle.verilog_text.specs.declared.token.Token.{Token}
use Rattle.verilog_text.specs.declared.token.Symbol.{Symbol}
use Rattle.verilog_text.specs.declared.token.TokenKind.{TokenKind}
use Rattle.verilog_text.specs.declared.token.TokenKind.TheVariants.{Plain, Sized, Symbol as Sym, End}
use Rattle.verilog_text.specs.declared.token.LexKind.{LexKind}
use Rattle.verilog_text.specs.declared.token.LexKind.TheVariants.{BadByte, BadConstant, NumberTooGreat, NameTooLong}
use Rattle.verilog_text.specs.declared.token.LexFault.{LexFault}
use Rattle.verilog_text.specs.Bytes.{is_white, is_in_line, is_in_number, is_in_constant, value_of, constant_of, symbols, word_kind}

-- what is at the front of a text, and how many bytes it has
abbrev pub Lexeme : Type 0
Lexeme = Result (TokenKind × ℕ) (LexKind × ℕ)

-- the longest run of letters, digits, `_` and `$`
abbrev pub word_at : List ℕ → ℕ → Lexeme
word_at bytes n = if nat_lt MAX_NAME_BYTES n then Err (NameTooLong, n) else Ok (word_kind (take n bytes), n)

abbrev pub plain_of : ℕ → ℕ → Lexeme
plain_of v n = if nat_lt v (2 ^ 64) then Ok (Plain v, n) else Err (NumberTooGreat, n)

abbrev pub sized_of : Option SizedNumber → ℕ → Lexeme
sized_of None n = Err (BadConstant, n)
sized_of (Some c) n = Ok (Sized c, n)

abbrev pub is_tick_first : List ℕ → Bool
is_tick_first [] = false
is_tick_first (b ∷ bs) = nat_eq b 39

-- a sized constant where the digits are followed by `'`, else a plain number
abbrev pub number_at : List ℕ → ℕ → ℕ → Lexeme
number_at bytes digits run =
    if is_tick_first (drop digits bytes) then sized_of (constant_of (take run bytes)) run
    else plain_of (value_of 10 (take digits bytes)) digits

abbrev pub symbol_of : Option (List ℕ × Symbol) → Lexeme
symbol_of None = Err (BadByte, 1)
symbol_of (Some row) = Ok (Sym row.1, length row.0)

-- the longest symbol, which is the first in the table that the bytes begin with; a `/*` that is here has no end
abbrev pub symbol_here : List ℕ → Lexeme
symbol_here bytes =
    if starts_with nat_eq bytes (codes "/*") then Err (BadByte, 1)
    else symbol_of (find (λ row. starts_with nat_eq bytes row.0) symbols)

abbrev pub word_here : List ℕ → Lexeme
word_here bytes = word_at bytes (prefix_len is_word_byte bytes)

abbrev pub number_here : List ℕ → Lexeme
number_here bytes = number_at bytes (prefix_len is_in_number bytes) (prefix_len is_in_constant bytes)

unfoldable pub lexeme : ℕ → List ℕ → Lexeme
lexeme a bs =
    if is_letter a then word_here (a ∷ bs)
    else (if is_digit a then number_here (a ∷ bs) else symbol_here (a ∷ bs))

-- what follows the first `*/`
abbrev pub behind_star : ℕ → List ℕ → Option (List ℕ) → Option (List ℕ)
behind_star a [] later = None
behind_star a (b ∷ bs) later = if nat_eq a 42 && nat_eq b 47 then Some bs else later

abbrev pub behind_block : List ℕ → Option (List ℕ)
behind_block [] = None
behind_block (a ∷ bs) = behind_star a bs (behind_block bs)

-- Gap text rest: only white space and comments are in the text before the rest.
-- A comment goes from `//` to the end of its line, or of the text, or from `/*` to the next `*/`.
pub data Gap : List ℕ → List ℕ → Type 0 where
  none : {rest : List ℕ} → Gap rest rest
  white : {b : ℕ} {text rest : List ℕ} → is_white b ≡ true → Gap text rest → Gap (b ∷ text) rest
  line : {text rest : List ℕ} → Gap (drop (prefix_len is_in_line text) text) rest → Gap (47 ∷ 47 ∷ text) rest
  block : {text behind rest : List ℕ} → behind_block text ≡ Some behind → Gap behind rest → Gap (47 ∷ 42 ∷ text) rest

-- neither white space nor a comment begins here
abbrev pub Solid : List ℕ → Type 0
Solid [] = Unit {0}
Solid (a ∷ []) = is_white a ≡ false
Solid (a ∷ b ∷ bs) = (is_white a ≡ false) × (a ≡ 47 → b ≡ 47 → ⊥) × (a ≡ 47 → b ≡ 42 → behind_block bs ≡ None)

-- the n bytes where this much of the whole text is left
abbrev pub span_at : ℕ → List ℕ → ℕ → Span
span_at total left n = record { start = total - length left; stop = total - length left + n }

-- Lexes total text tokens: these are the tokens of what is left of a text of this many bytes.
pub data Lexes (total : ℕ) : List ℕ → List Token → Type 0 where
  finish : {text : List ℕ} → Gap text [] → Lexes total text (record { span = record { start = total; stop = total }; kind = End } ∷ [])
  next : {text bs : List ℕ} {a n : ℕ} {kind : TokenKind} {tokens : List Token} → Gap text (a ∷ bs) → Solid (a ∷ bs) → lexeme a bs ≡ Ok (kind, n)
      → Lexes total (drop n (a ∷ bs)) tokens
      → Lexes total text (record { span = span_at total (a ∷ bs) n; kind = kind } ∷ tokens)

-- Refused total text fault: this is the first fault in what is left of a text of this many bytes.
pub data Refused (total : ℕ) : List ℕ → LexFault → Type 0 where
  here : {text bs : List ℕ} {a n : ℕ} {kind : LexKind} → Gap text (a ∷ bs) → Solid (a ∷ bs) → lexeme a bs ≡ Err (kind, n)
      → Refused total text (record { span = span_at total (a ∷ bs) n; kind = kind })
  later : {text bs : List ℕ} {a n : ℕ} {kind : TokenKind} {fault : LexFault} → Gap text (a ∷ bs) → Solid (a ∷ bs) → lexeme a bs ≡ Ok (kind, n)
      → Refused total (drop n (a ∷ bs)) fault
      → Refused total text fault

-- the tokens of a whole text, the last of which is its end
abbrev pub HasTokens : List ℕ → List Token → Type 0
HasTokens text tokens = Lexes (length text) text tokens

-- the first fault of a whole text
abbrev pub HasLexFault : List ℕ → LexFault → Type 0
HasLexFault text fault = Refused (length text) text fault
