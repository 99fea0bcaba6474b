-- One word of each array of at least a number of words.
use Rattle.std.specs.Prelude.{ℕ, ◌+◌, nat_le, if◌then◌else◌, List, [], ◌∷◌}
use Rattle.wiring.specs.declared.netlist.Shape.{Shape}

-- the bits of these words together
abbrev pub word_bits : (least : ℕ) → List Shape → ℕ
word_bits least [] = 0
word_bits least (s ∷ arrays) = (if nat_le least s.depth then s.width else 0) + word_bits least arrays
