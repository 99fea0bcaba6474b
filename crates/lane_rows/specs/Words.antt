-- The words of an array over the clocks of a batch.
use Rattle.std.specs.Prelude.{◌≡◌, ℕ, zero, suc, ◌<◌, List, slice_index, slice_set}

-- what an array holds before a clock, written once a clock
abbrev pub words_after : List ℕ → List ℕ → List ℕ → ℕ → List ℕ
words_after words index value zero = words
words_after words index value (suc t) = slice_set (words_after words index value t) (slice_index index t) (slice_index value t)

-- what is read of it in each of the first n clocks, before the edge
abbrev pub IsReadUpTo : ℕ → List ℕ → List ℕ → List ℕ → List ℕ → List ℕ → Type 0
IsReadUpTo n words to read index value = (t : ℕ) → t < n → slice_index to t ≡ slice_index (words_after words index value t) (slice_index read t)

-- each index of the first n is inside
abbrev pub AreInside : ℕ → List ℕ → ℕ → Type 0
AreInside n index depth = (t : ℕ) → t < n → slice_index index t < depth
