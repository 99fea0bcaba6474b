-- Bytes of ASCII, and the numbers that decimal digits write.
use Rattle.std.specs.Prelude.{ℕ, ◌+◌, ◌*◌, ◌-◌, List, [], ◌∷◌, Bool, ◌&&◌, ◌||◌, nat_lt, nat_eq}

-- blank, TAB, CR, LF
abbrev pub is_white : ℕ → Bool
is_white b = nat_eq b 32 || nat_eq b 9 || nat_eq b 13 || nat_eq b 10

-- a letter or `_`
abbrev pub is_letter : ℕ → Bool
is_letter b = (nat_lt 64 b && nat_lt b 91) || (nat_lt 96 b && nat_lt b 123) || nat_eq b 95

abbrev pub is_digit : ℕ → Bool
is_digit b = nat_lt 47 b && nat_lt b 58

abbrev pub is_word_byte : ℕ → Bool
is_word_byte b = is_letter b || is_digit b

-- the number of decimal digits, read after a number
abbrev pub value_after : ℕ → List ℕ → ℕ
value_after v [] = v
value_after v (d ∷ ds) = value_after (10 * v + (d - 48)) ds

-- the number of decimal digits
abbrev pub value_of : List ℕ → ℕ
value_of digits = value_after 0 digits
