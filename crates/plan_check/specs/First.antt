-- The first number of a kind.
use Rattle.std.specs.Prelude.{ℕ, ◌<◌, Option, MatchOption}

pub record IsFirst (P : ℕ → Type 0) (n : ℕ) : Type 0 where
  pub is : P n
  pub before : (m : ℕ) → m < n → P m → ⊥

-- a place below a count at which something does not hold
abbrev pub Misses : (ℕ → Type 0) → (count : ℕ) → ℕ → Type 0
Misses P count k = (k < count) × (P k → ⊥)

-- None where it holds at each place below a count, or else the first place at which it does not
abbrev pub IsFirstMiss : (ℕ → Type 0) → (count : ℕ) → Option ℕ → Type 0
IsFirstMiss P count result = MatchOption result ((k : ℕ) → k < count → P k) (IsFirst (Misses P count))
