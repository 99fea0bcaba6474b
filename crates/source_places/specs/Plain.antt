-- Text that any terminal can show.
use Rattle.std.specs.Prelude.{ℕ, List, Bool, ◌||◌, ◌&&◌, nat_lt, nat_eq, length, ◌≤◌}
use Rattle.std.specs.List.{AllPass}
use Rattle.source_places.specs.declared.TheConstants.{MAX_PLAIN_BYTES}

-- LF, or a printable character of ASCII
abbrev pub is_plain : ℕ → Bool
is_plain b = nat_eq b 10 || (nat_lt 31 b && nat_lt b 127)

abbrev pub ArePlain : List ℕ → Type 0
ArePlain bytes = AllPass is_plain bytes

-- plain bytes, within the limit
pub record IsPlainText (bytes : List ℕ) : Type 0 where
  pub plain : ArePlain bytes
  pub short : length bytes ≤ MAX_PLAIN_BYTES
