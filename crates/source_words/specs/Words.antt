-- Words of the source language: reserved words, type words and names.
use Rattle.std.specs.Prelude.{ℕ, ◌+◌, ◌*◌, ◌-◌, List, [], ◌∷◌, length, Option, Some, None, Bool, true, false, ◌&&◌, nat_lt, nat_le, nat_eq, is_none, if◌then◌else◌, codes}
use Rattle.std.specs.List.{prefix_len, find}
use Rattle.std.specs.Str.{bytes_eq}
use Rattle.dk_base.specs.declared.TheConstants.{MAX_NAME_BYTES, MAX_WIDTH}
use Rattle.dk_base.specs.declared.ty.Ty.{Ty}
use Rattle.dk_base.specs.declared.ty.Ty.TheVariants.{Unsigned, Signed}
use Rattle.dk_base.specs.Ascii.{is_letter, is_word_byte}
use Rattle.source_words.specs.declared.word.Keyword.{Keyword}
use Rattle.source_words.specs.declared.word.Keyword.TheVariants.{Size, Input, Let, Inline, Im, End, Output, As, Select, Min, Max, Abs, Sat, X, Y, Edge, Clamp}

-- a letter or `_`, followed by letters, digits or `_`
abbrev pub is_word : List ℕ → Bool
is_word [] = false
is_word (b ∷ bytes) = is_letter b && nat_eq (prefix_len is_word_byte bytes) (length bytes)

-- the bytes of a reserved word in a text
abbrev pub spelling_of : Keyword → List ℕ
spelling_of Size = codes "size"
spelling_of Input = codes "input"
spelling_of Let = codes "let"
spelling_of Inline = codes "inline"
spelling_of Im = codes "im"
spelling_of End = codes "end"
spelling_of Output = codes "output"
spelling_of As = codes "as"
spelling_of Select = codes "select"
spelling_of Min = codes "min"
spelling_of Max = codes "max"
spelling_of Abs = codes "abs"
spelling_of Sat = codes "sat"
spelling_of X = codes "x"
spelling_of Y = codes "y"
spelling_of Edge = codes "edge"
spelling_of Clamp = codes "clamp"

-- whether it names an operator with its operands in brackets
abbrev pub is_function : Keyword → Bool
is_function Size = false
is_function Input = false
is_function Let = false
is_function Inline = false
is_function Im = false
is_function End = false
is_function Output = false
is_function As = false
is_function Select = true
is_function Min = true
is_function Max = true
is_function Abs = true
is_function Sat = true
is_function X = false
is_function Y = false
is_function Edge = false
is_function Clamp = false

-- the reserved words, in the order of the grammar's list
abbrev pub keywords : List Keyword
keywords = Size ∷ Input ∷ Let ∷ Inline ∷ Im ∷ End ∷ Output ∷ As ∷ Select ∷ Min ∷ Max ∷ Abs ∷ Sat ∷ X ∷ Y ∷ Edge ∷ Clamp ∷ []

-- the reserved word with these bytes
abbrev pub keyword_of : List ℕ → Option Keyword
keyword_of bytes = find (λ k. bytes_eq bytes (spelling_of k)) keywords

-- a number of bits: 1 to 64, in decimal, without a leading zero
abbrev pub in_range : ℕ → Option ℕ
in_range n = if nat_lt MAX_WIDTH n then None else Some n

abbrev pub width_of : List ℕ → Option ℕ
width_of [] = None
width_of (d ∷ []) = if nat_lt 48 d && nat_lt d 58 then Some (d - 48) else None
width_of (d ∷ e ∷ []) = if nat_lt 48 d && nat_lt d 58 && nat_lt 47 e && nat_lt e 58 then in_range (10 * (d - 48) + (e - 48)) else None
width_of (d ∷ e ∷ f ∷ ds) = None

abbrev pub typed : (ℕ → Ty) → Option ℕ → Option Ty
typed f None = None
typed f (Some n) = Some (f n)

-- the type with this type word: `u` or `s`, and a number of bits
abbrev pub type_of_word : List ℕ → Option Ty
type_of_word [] = None
type_of_word (c ∷ ds) =
    if nat_eq c 117 then typed Unsigned (width_of ds)
    else (if nat_eq c 115 then typed Signed (width_of ds) else None)

-- a word of at most 64 bytes that is neither a reserved word nor a type word
abbrev pub is_name : List ℕ → Bool
is_name bytes = is_word bytes && nat_le (length bytes) MAX_NAME_BYTES && is_none (keyword_of bytes) && is_none (type_of_word bytes)
