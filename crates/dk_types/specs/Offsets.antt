-- What the offsets of the text mean.
use Rattle.std.specs.Prelude.{Bool, ℕ, ℤ, pos, neg_ℤ, Option, Some, None, if◌then◌else◌}
use Rattle.dk_parser.specs.declared.tree.Offset.{Offset}

-- the size of an offset, 0 where none is written
abbrev pub amount_of : Option Offset → ℕ
amount_of None = 0
amount_of (Some o) = o.amount.value

-- the offset as a whole number
abbrev pub signed : Bool → ℕ → ℤ
signed minus n = if minus then neg_ℤ (pos n) else pos n

abbrev pub offset_of : Option Offset → ℤ
offset_of None = pos 0
offset_of (Some o) = signed o.negative o.amount.value
