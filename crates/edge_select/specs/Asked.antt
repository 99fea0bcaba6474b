-- What frame tests are for: the columns and the rows that they separate from the others.
use Rattle.std.specs.Prelude.{◌≡◌, ◌⊎◌, ℕ, ◌+◌, ◌-◌, ◌%◌, ◌<◌, false, Contains}
use Rattle.dk_base.specs.Frames.{Size, column, row}
use Rattle.wiring.specs.Clock.{bit}
use Rattle.edge_select.specs.declared.bands.Band.{Band}
use Rattle.edge_select.specs.declared.frame_tests.Test.{Test}
use Rattle.edge_select.specs.declared.frame_tests.FrameTests.{FrameTests}
use Rattle.edge_select.specs.Bands.{in_band}
use Rattle.edge_select.specs.Pixels.{IsBitOf}

-- some pixel of the column passes
abbrev pub InColumn : Size → (passes : (x y : ℕ) → Type 0) → (x : ℕ) → Type 0
InColumn size passes x = (y : ℕ) × (y < size.height) × passes x y

-- some pixel of the row passes
abbrev pub InRow : Size → (passes : (x y : ℕ) → Type 0) → (y : ℕ) → Type 0
InRow size passes y = (x : ℕ) × (x < size.width) × passes x y

-- the test has the band's interval
abbrev pub HasIntervalOf : Band → Test → Type 0
HasIntervalOf band t = t.band ≡ record { first = band.first; last = band.last; outside = false }

-- The test separates these columns from the others, of the pixel that came `delay` counted clocks ago: its interval has exactly these or exactly the others, each moved on by the delay.
pub record SeparatesColumns (size : Size) (delay : ℕ) (columns : ℕ → Type 0) (t : Test) : Type 0 where
  pub band : Band
  pub interval : HasIntervalOf band t
  pub columns_are : (k : ℕ) → IsBitOf (columns (column size k)) (bit (in_band size.width band (column size (k + delay))))

-- The test separates these rows from the others, of the pixel that came `delay` counted clocks ago: it starts where the first pixel of a line is after the delay, and its interval has exactly these rows or exactly the others, each moved on by the lines of the delay.
pub record SeparatesRows (size : Size) (delay : ℕ) (rows : ℕ → Type 0) (t : Test) : Type 0 where
  pub start : t.start ≡ delay % size.width
  pub band : Band
  pub interval : HasIntervalOf band t
  pub rows_are : (k : ℕ) → IsBitOf (rows (row size k)) (bit (in_band size.height band (row size (k + (delay - t.start)))))

-- each test of columns or rows was there before, or is such a one
pub record AddsOnly (now before : FrameTests) (for_columns for_rows : Test → Type 0) : Type 0 where
  pub columns : (t : Test) → Contains now.columns.items t → Contains before.columns.items t ⊎ for_columns t
  pub rows : (t : Test) → Contains now.rows.items t → Contains before.rows.items t ⊎ for_rows t

-- each added test separates the columns where some pixel passes, or the rows where one does, from the others
abbrev pub AddsFor : Size → (delay : ℕ) → (passes : (x y : ℕ) → Type 0) → (now before : FrameTests) → Type 0
AddsFor size delay passes now before = AddsOnly now before (SeparatesColumns size delay (InColumn size passes)) (SeparatesRows size delay (InRow size passes))
