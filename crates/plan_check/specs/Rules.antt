-- Rules on the lines of a text: a rule is the number of a line, and what has to hold there.
use Rattle.std.specs.Prelude.{◌≡◌, ℕ, ◌⊎◌, List, [], ◌∷◌, map, Option, MatchOption}
use Rattle.std.specs.List.{range_with_len}
use Rattle.plan_check.specs.First.{IsFirst}

-- a rule for each place below a count
abbrev pub each : (line_of : ℕ → ℕ) → (count : ℕ) → (ℕ → Type 0) → List (ℕ × Type 0)
each line_of count P = map (λ k. (line_of k, P k)) (range_with_len 0 count)

-- all of them hold
abbrev pub Keeps : List (ℕ × Type 0) → Type 0
Keeps [] = Unit {0}
Keeps (rule ∷ rules) = rule.1 × Keeps rules

-- one at this line does not hold
abbrev pub Breaks : List (ℕ × Type 0) → (line : ℕ) → Type 0
Breaks [] line = ⊥
Breaks (rule ∷ rules) line = ((line ≡ rule.0) × (rule.1 → ⊥)) ⊎ Breaks rules line

-- None, and then this fact holds, or else the first line at which a rule does not
abbrev pub UnlessBroken : List (ℕ × Type 0) → (fact : Type 0) → Option ℕ → Type 0
UnlessBroken rules fact result = MatchOption result fact (IsFirst (Breaks rules))

-- None if all of them hold, or else the first line at which one does not
abbrev pub IsFirstBroken : List (ℕ × Type 0) → Option ℕ → Type 0
IsFirstBroken rules result = UnlessBroken rules (Keeps rules) result
