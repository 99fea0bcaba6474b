-- Pieces as they are counted, for the private functions.
use Rattle.std.specs.Prelude.{◌≡◌, ◌≤◌, min, IfSome}
use Rattle.body_levels.specs.declared.room.CutCount.{CutCount}
use Rattle.body_levels.specs.Reasons.{Cutting}

-- The levels and pieces of an expression that was cut. More pieces than a number of 32 bits holds count as its greatest value.
pub record IsCount (count : CutCount) (c : Cutting) : Type 0 where
  pub levels : count.levels ≡ c.levels
  pub pieces : count.pieces ≡ min c.pieces 4294967295
  pub small : IfSome count.levels (λ n. n ≤ 257)
