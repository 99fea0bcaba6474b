-- The bytes of the subset: words, numbers and symbols.
use Rattle.std.specs.Prelude.{ℕ, ◌+◌, ◌-◌, ◌*◌, ◌^◌, List, [], ◌∷◌, take, drop, Option, Some, None, Bool, true, false, ◌&&◌, ◌||◌, not, nat_lt, nat_le, nat_eq, if◌then◌else◌, codes}
use Rattle.std.specs.List.{prefix_len}
use Rattle.dk_base.specs.declared.TheConstants.{MAX_WIDTH}
use Rattle.net_names.specs.Words.{is_letter, is_digit, is_refused_word}
use Rattle.std.specs.Str.{bytes_eq}
use Rattle.wiring.specs.Sizes.{SizedNumber}
use Rattle.verilog_text.specs.declared.token.Symbol.{Symbol}
use Rattle.verilog_text.specs.declared.token.Symbol.TheVariants as symbol
use Rattle.verilog_text.specs.declared.token.Keyword.{Keyword}
use Rattle.verilog_text.specs.declared.token.Keyword.TheVariants as keyword
use Rattle.verilog_text.specs.declared.token.TokenKind.{TokenKind}
use Rattle.verilog_text.specs.declared.token.TokenKind.TheVariants as kind

-- space, TAB, LF, formfeed, CR
abbrev pub is_white : ℕ → Bool
is_white b = nat_eq b 32 || nat_eq b 9 || nat_eq b 10 || nat_eq b 12 || nat_eq b 13

-- a byte of a comment that begins with `//`
abbrev pub is_in_line : ℕ → Bool
is_in_line b = not (nat_eq b 10)

-- what a plain number goes on with: digits and `_`
abbrev pub is_in_number : ℕ → Bool
is_in_number b = is_digit b || nat_eq b 95

-- what a sized constant goes on with: letters, digits, `_` and `'`
abbrev pub is_in_constant : ℕ → Bool
is_in_constant b = is_letter b || is_digit b || nat_eq b 39

-- the value of a digit, letters from ten on in either case; 16 for what is no digit
abbrev pub digit_value : ℕ → ℕ
digit_value b =
    if is_digit b then b - 48
    else (if nat_lt 64 b && nat_lt b 71 then b - 55
    else (if nat_lt 96 b && nat_lt b 103 then b - 87
    else 16))

abbrev pub is_digit_of : ℕ → ℕ → Bool
is_digit_of base b = nat_lt (digit_value b) base

-- the number of digits, read after a number; underscores count for nothing
abbrev pub with_digit : ℕ → ℕ → ℕ → ℕ
with_digit base v d = if nat_eq d 95 then v else base * v + digit_value d

abbrev pub value_after : ℕ → ℕ → List ℕ → ℕ
value_after base v [] = v
value_after base v (d ∷ ds) = value_after base (with_digit base v d) ds

abbrev pub value_of : ℕ → List ℕ → ℕ
value_of base digits = value_after base 0 digits

abbrev pub are_digits : ℕ → List ℕ → Bool
are_digits base [] = true
are_digits base (d ∷ ds) = (is_digit_of base d || nat_eq d 95) && are_digits base ds

-- digits and underscores, the first a digit
abbrev pub is_numeral : ℕ → List ℕ → Bool
is_numeral base [] = false
is_numeral base (d ∷ ds) = is_digit_of base d && are_digits base ds

-- `d`, `h` and `b` in either case
abbrev pub base_of : ℕ → Option ℕ
base_of b =
    if nat_eq b 100 || nat_eq b 68 then Some 10
    else (if nat_eq b 104 || nat_eq b 72 then Some 16
    else (if nat_eq b 98 || nat_eq b 66 then Some 2
    else None))

-- a size of 1 to 64, and a value below 2 to the size
abbrev pub fitting : ℕ → ℕ → Option SizedNumber
fitting size value =
    if nat_le 1 size && nat_le size MAX_WIDTH && nat_lt value (2 ^ size) then Some (record { width = size; value = value }) else None

abbrev pub in_base : ℕ → Option ℕ → List ℕ → Option SizedNumber
in_base size None digits = None
in_base size (Some base) digits = if is_numeral base digits then fitting size (value_of base digits) else None

-- what follows a size: `'`, a base, digits
abbrev pub of_size : ℕ → List ℕ → Option SizedNumber
of_size size [] = None
of_size size (tick ∷ []) = None
of_size size (tick ∷ base ∷ digits) = in_base size (base_of base) digits

-- a run that is as a whole a sized constant
abbrev pub constant_of : List ℕ → Option SizedNumber
constant_of run = of_size (value_of 10 (take (prefix_len is_in_number run) run)) (drop (prefix_len is_in_number run) run)

-- the symbols, each by its spelling, the longer spellings first
abbrev pub symbols : List (List ℕ × Symbol)
symbols =
    (codes "<=", symbol.LessEqual) ∷ (codes "==", symbol.EqualEqual) ∷ (codes "(", symbol.Open) ∷ (codes ")", symbol.Close) ∷ (codes "[", symbol.OpenSquare) ∷ (codes "]", symbol.CloseSquare)
    ∷ (codes "{", symbol.OpenBrace) ∷ (codes "}", symbol.CloseBrace) ∷ (codes ",", symbol.Comma) ∷ (codes ";", symbol.Semicolon) ∷ (codes ":", symbol.Colon) ∷ (codes "?", symbol.Question)
    ∷ (codes "=", symbol.Equal) ∷ (codes "<", symbol.Less) ∷ (codes "+", symbol.Plus) ∷ (codes "-", symbol.Minus) ∷ (codes "*", symbol.Star) ∷ (codes "/", symbol.Slash)
    ∷ (codes "&", symbol.Ampersand) ∷ (codes "|", symbol.Bar) ∷ (codes "^", symbol.Caret) ∷ (codes "~", symbol.Tilde) ∷ (codes "@", symbol.At) ∷ []

-- the words of the grammar
abbrev pub keywords : List (List ℕ × Keyword)
keywords =
    (codes "module", keyword.Module) ∷ (codes "endmodule", keyword.EndModule) ∷ (codes "input", keyword.Input) ∷ (codes "output", keyword.Output)
    ∷ (codes "wire", keyword.Wire) ∷ (codes "reg", keyword.Reg) ∷ (codes "assign", keyword.Assign) ∷ (codes "always", keyword.Always)
    ∷ (codes "posedge", keyword.Posedge) ∷ (codes "begin", keyword.Begin) ∷ (codes "end", keyword.End) ∷ []

abbrev pub keyword_or : List ℕ → List (List ℕ × Keyword) → TokenKind → TokenKind
keyword_or bytes [] other = other
keyword_or bytes (w ∷ ws) other = if bytes_eq bytes w.0 then kind.Keyword w.1 else keyword_or bytes ws other

abbrev pub refused_or_name : List ℕ → TokenKind
refused_or_name bytes = if is_refused_word bytes then kind.Refused else (if bytes_eq bytes (codes "clk") then kind.Clock else kind.Name)

-- case is kept apart
abbrev pub word_kind : List ℕ → TokenKind
word_kind bytes = keyword_or bytes keywords (refused_or_name bytes)
