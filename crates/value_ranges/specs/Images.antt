-- The intervals of the images of a program.
use Rattle.std.specs.Prelude.{◌≡◌, ℕ, ℤ, List, Some, slice_get}
use Rattle.dk_base.specs.Types.{IsIn}
use Rattle.dk_base.specs.Frames.{Picture}
use Rattle.pointwise_ir.specs.declared.program.Input.{Input}
use Rattle.pointwise_ir.specs.Programs.{Program}
use Rattle.pointwise_ir.specs.Meaning.{pictures, IsRound}
use Rattle.value_ranges.specs.declared.interval.Interval.{Interval}
use Rattle.value_ranges.specs.Intervals.{IsBetween}
use Rattle.value_ranges.specs.Parts.{AreBetween}

-- on each round the images' values are in these intervals, the first of which are those of the inputs
abbrev pub AreRangesOf : Program → List Interval → Type 0
AreRangesOf p ranges = (round : List Picture) → IsRound p round → AreBetween ranges (pictures p round)

-- the interval of each input has all values of its type
abbrev pub HoldTypes : List Input → List Interval → Type 0
HoldTypes inputs ranges = (k : ℕ) (input : Input) (r : Interval) → slice_get inputs k ≡ Some input → slice_get ranges k ≡ Some r → (v : ℤ) → IsIn input.ty v → IsBetween r v
