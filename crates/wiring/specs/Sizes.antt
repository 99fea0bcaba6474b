-- Sizes of nets and arrays, and numbers with a size.
use Rattle.std.specs.Prelude.{ℕ, ◌^◌, ◌<◌, ◌≤◌}
use Rattle.wiring.specs.declared.TheConstants.{MOST_BITS, MOST_WORDS}

-- a width in bits
abbrev pub IsWidth : ℕ → Type 0
IsWidth w = (1 ≤ w) × (w ≤ MOST_BITS)

-- a number of words
abbrev pub IsDepth : ℕ → Type 0
IsDepth d = (1 ≤ d) × (d ≤ MOST_WORDS)

-- a number with its size in bits
pub record SizedNumber : Type 0 where
  pub width : ℕ
  pub value : ℕ

-- the number fits its size
pub record IsConstant (c : SizedNumber) : Type 0 where
  pub width : IsWidth c.width
  pub fits : c.value < 2 ^ c.width
