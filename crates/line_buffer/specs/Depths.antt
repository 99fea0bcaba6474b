-- Logic depth: how many operators the paths of assigns to a tap have.
use Rattle.std.specs.Prelude.{ℕ}

-- to the index of a delay line, and so to its word, from rst, en and registers: the index is chosen to be 0 in a reset clock
abbrev pub line_operators : ℕ
line_operators = 1

-- to the index of the next counted clock: two more, a sum, and the choice of 0 after the last word
abbrev pub ahead_operators : ℕ
ahead_operators = 3

-- to a tap of a ring: two more, a comparison, sum or difference of the index and an age, and the choice between sum and difference
abbrev pub ring_operators : ℕ
ring_operators = 3
