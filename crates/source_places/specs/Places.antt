-- Lines and columns of a text.
use Rattle.std.specs.Prelude.{ℕ, List, [], ◌∷◌, suc, take, count_by, Bool, ◌||◌, nat_lt, nat_eq, if◌then◌else◌}
use Rattle.std.specs.List.{list_any}

-- LF
abbrev pub is_line_end : ℕ → Bool
is_line_end b = nat_eq b 10

-- a byte that is no continuation byte of UTF-8, which are 128 to 191
abbrev pub begins_character : ℕ → Bool
begins_character b = nat_lt b 128 || nat_lt 191 b

-- the bytes after the last LF, or all if there is none: the longest end of the list without LF
abbrev pub last_line : List ℕ → List ℕ
last_line [] = []
last_line (b ∷ bs) = if list_any is_line_end (b ∷ bs) then last_line bs else b ∷ bs

-- the line of the byte `at` of a text, from 1
abbrev pub line_of : List ℕ → ℕ → ℕ
line_of text at = suc (count_by is_line_end (take at text))

-- its column, from 1, in characters
abbrev pub column_of : List ℕ → ℕ → ℕ
column_of text at = suc (count_by begins_character (last_line (take at text)))
