-- The text of a trace: a value change dump, line by line.
use Rattle.std.specs.Prelude.{ℕ, zero, suc, ◌+◌, ◌^◌, ◌<◌, nat_eq, if◌then◌else◌, List, [], ◌∷◌, ◌++◌, map, reverse}
use Rattle.std.specs.List.{AllZip}
use Rattle.std.specs.Fmt.{decimal}
use Rattle.std.specs.Int.Digits.{digits_of}

-- a number in binary, without leading zeros
abbrev pub binary : ℕ → List ℕ
binary zero = 48 ∷ []
binary (suc v) = map (λ d. 48 + d) (digits_of 2 (suc v))

-- the name of variable i: its digits in base 94, the least first, at least one
abbrev pub id_of : ℕ → List ℕ
id_of zero = 33 ∷ []
id_of (suc i) = map (λ d. 33 + d) (reverse (digits_of 94 (suc i)))

-- the line of variable i, of this width, at this value
abbrev pub value_line : (width i value : ℕ) → List ℕ
value_line width i value = if nat_eq width 1 then (48 + value) ∷ id_of i else 98 ∷ (binary value ++ 32 ∷ id_of i)

-- the lines of all variables, from variable i on
abbrev pub all_lines : (i : ℕ) → (widths values : List ℕ) → List (List ℕ)
all_lines i [] values = []
all_lines i (w ∷ ws) [] = []
all_lines i (w ∷ ws) (v ∷ vs) = value_line w i v ∷ all_lines (i + 1) ws vs

-- the line of variable i, where its value changed
abbrev pub change_lines : (width i old new : ℕ) → List (List ℕ)
change_lines width i old new = if nat_eq old new then [] else value_line width i new ∷ []

-- the lines of those whose value changed
abbrev pub changed_lines : (i : ℕ) → (widths old new : List ℕ) → List (List ℕ)
changed_lines i [] old new = []
changed_lines i (w ∷ ws) [] new = []
changed_lines i (w ∷ ws) (a ∷ old) [] = []
changed_lines i (w ∷ ws) (a ∷ old) (b ∷ new) = change_lines w i a b ++ changed_lines (i + 1) ws old new

abbrev pub time_line : ℕ → List ℕ
time_line k = 35 ∷ decimal k

-- the lines of the clocks from time k on, the values before them being these
abbrev pub later_lines : (k : ℕ) → (widths old : List ℕ) → List (List ℕ) → List (List ℕ)
later_lines k widths old [] = time_line k ∷ []
later_lines k widths old (new ∷ clocks) = time_line k ∷ (changed_lines 0 widths old new ++ later_lines (k + 1) widths new clocks)

-- The lines after the header. Time 0 has a line for every variable. After the last clock comes the next time, without values.
abbrev pub clock_lines : (widths : List ℕ) → List (List ℕ) → List (List ℕ)
clock_lines widths [] = time_line 0 ∷ []
clock_lines widths (first ∷ clocks) = time_line 0 ∷ (all_lines 0 widths first ++ later_lines 1 widths first clocks)

-- the lines one after another, each with an LF after it
abbrev pub text_of : List (List ℕ) → List ℕ
text_of [] = []
text_of (line ∷ lines) = line ++ 10 ∷ text_of lines

-- one value for each variable, each fitting its width
abbrev pub AreValues : (widths values : List ℕ) → Type 0
AreValues widths values = AllZip (λ w v. v < 2 ^ w) widths values
