-- Numbers that are written as words.
use Rattle.std.specs.Prelude.{ℕ, ◌&&◌, Bool, false, nat_le, List, [], ◌∷◌, ◌++◌, replicate, Option, None, Some, option_and_then, if◌then◌else◌}
use Rattle.std.specs.Fmt.{decimal}
use Rattle.std.specs.List.{list_all}
use Rattle.std.specs.Str.Parse.{digits_value}

-- a decimal digit: the bytes from `0` (48) to `9` (57)
abbrev pub is_digit : ℕ → Bool
is_digit byte = nat_le 48 byte && nat_le byte 57

-- one or more decimal digits, and no other byte
abbrev pub is_decimal : List ℕ → Bool
is_decimal [] = false
is_decimal (first ∷ rest) = list_all is_digit (first ∷ rest)

-- the number of a word of decimal digits is the value of its digits
abbrev pub number_of : List ℕ → Option ℕ
number_of word = if is_decimal word then Some (digits_value 10 word) else None

-- the number in decimal, after this many zeros (48)
abbrev pub padded_decimal : (zeros number : ℕ) → List ℕ
padded_decimal zeros number = replicate zeros 48 ++ decimal number

-- the number, where it is in the range
abbrev pub within : ℕ → ℕ → ℕ → Option ℕ
within low high number = if nat_le low number && nat_le number high then Some number else None

-- the number that the word writes, where it is in the range
abbrev pub number_within : ℕ → ℕ → List ℕ → Option ℕ
number_within low high word = option_and_then (within low high) (number_of word)
