-- The lines of a text, and the first line that is faulty.
use Rattle.std.specs.Prelude.{◌≡◌, ℕ, suc, ◌⊎◌, List, [], ◌∷◌, ◌++◌, nat_eq, if◌then◌else◌}
use Rattle.std.specs.List.{AllByRecursion}
use Rattle.dk_grammar.specs.Reading.{IsFaulty}

-- a byte before the first line
abbrev pub onto_first : ℕ → List (List ℕ) → List (List ℕ)
onto_first b [] = (b ∷ []) ∷ []
onto_first b (line ∷ more) = (b ∷ line) ∷ more

-- The lines of a text, each with its LF. One line more follows the last LF and has none: it is empty if the text ends with an LF.
abbrev pub cut : List ℕ → List (List ℕ)
cut [] = [] ∷ []
cut (b ∷ bytes) = if nat_eq b 10 then (10 ∷ []) ∷ cut bytes else onto_first b (cut bytes)

-- these are the lines of a text of the language
abbrev pub AreLinesOf : (List ℕ → Type 0) → List (List ℕ) → Type 0
AreLinesOf Text lines = (text : List ℕ) × Text text × (lines ≡ cut text)

-- The line of this number, counted from 1, is the first that continues no text of the language: those before it begin some text, and those up to it begin none. If the text ends too early, it is the line that is missing or that has no LF.
abbrev pub IsFirstFaulty : (List ℕ → Type 0) → List ℕ → ℕ → Type 0
IsFirstFaulty Text text number = (k : ℕ) × (number ≡ suc k) × IsFaulty (AreLinesOf Text) (cut text) k

-- bytes without an LF
abbrev pub IsPlain : List ℕ → Type 0
IsPlain bytes = AllByRecursion (λ b. b ≡ 10 → ⊥) bytes

-- the number of LFs
abbrev pub line_count : List ℕ → ℕ
line_count [] = 0
line_count (b ∷ bytes) = if nat_eq b 10 then suc (line_count bytes) else line_count bytes

-- the text from the line of this number on, counted from 1, and the lines before it
pub record IsAtLine (text before rest : List ℕ) (number : ℕ) : Type 0 where
  pub whole : text ≡ before ++ rest
  pub lines : (before ≡ []) ⊎ ((front : List ℕ) × (before ≡ front ++ 10 ∷ []))
  pub number_is : number ≡ suc (line_count before)
