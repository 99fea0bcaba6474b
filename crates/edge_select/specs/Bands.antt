-- Intervals of a side's coordinates that may go on around its end.
use Rattle.std.specs.Prelude.{ℕ, ◌+◌, ◌-◌, ◌%◌, ◌<◌, ◌≤◌, ◌==◌, Bool, true, not, if◌then◌else◌}
use Rattle.wiring.specs.Clock.{bit}
use Rattle.frame_paths.specs.declared.moves.Interval.{Interval}
use Rattle.frame_paths.specs.Moves.{IsIn}
use Rattle.net_build.specs.Counters.{after}
use Rattle.edge_select.specs.declared.bands.Band.{Band}
use Rattle.edge_select.specs.Logic.{is_within}
use Rattle.edge_select.specs.Pixels.{IsBitOf}

-- the interval has some coordinate, and none beyond the side
pub record IsBand (side : ℕ) (b : Band) : Type 0 where
  pub some : b.first ≤ b.last
  pub last : b.last < side

-- a coordinate is in the interval
abbrev pub in_interval : (side first last : ℕ) → ℕ → Bool
in_interval side first last x = if first == last then x == first else is_within side first last x

-- a coordinate is in the band: in its interval or, outside, not in it
abbrev pub in_band : (side : ℕ) → Band → ℕ → Bool
in_band side b x = if b.outside then not (in_interval side b.first b.last x) else in_interval side b.first b.last x

-- the coordinate that follows this one is in the band
abbrev pub is_next_in : (side : ℕ) → Band → ℕ → Bool
is_next_in side b x = in_band side b (after true (side - 1) x)

-- the row is in the band that is next where the next column is `start`: it changes where that is the first one
abbrev pub is_new_row_in : (side start : ℕ) → Band → ℕ → Bool
is_new_row_in side start b y = in_band side b (if start == 0 then after true (side - 1) y else y)

-- The band of an interval's coordinates, each moved on by `shift`. After the last coordinate of the side comes the first.
pub record IsMoved (side : ℕ) (interval : Interval) (shift : ℕ) (b : Band) : Type 0 where
  -- it is a band of the side
  pub band : IsBand side b
  -- its interval is without the side's last coordinate
  pub last : b.last + 1 < side
  -- a coordinate is in the interval exactly where it is in the band when moved
  pub moved : (x : ℕ) → x < side → IsBitOf (IsIn interval x) (bit (in_band side b ((x + shift) % side)))
