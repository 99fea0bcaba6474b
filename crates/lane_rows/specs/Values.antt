-- Rows in lanes, as rows of numbers.
use Rattle.std.specs.Prelude.{ℕ, ◌<◌, ◌≤◌, List, [], length, map, slice_index, slice_index_or, Vec}
use Rattle.std.specs.declared.alloc.Global.{Global}
use Rattle.lane_rows.specs.declared.row.Numbers.{Numbers}
use Rattle.lane_rows.specs.declared.row.Numbers.TheVariants as numbers
use Rattle.lane_rows.specs.declared.row.Row.{Row}
use Rattle.lane_rows.specs.declared.row.Row.TheVariants as row
use Rattle.lane_rows.specs.declared.row.Size.{Size}
use Rattle.lane_rows.specs.declared.row.Size.TheVariants as size

-- the numbers of a row
abbrev pub row_values : Row → List ℕ
row_values (row.Narrow v) = v.items
row_values (row.Middle v) = v.items
row_values (row.Wide v) = v.items

-- those of its first clocks, as each lane has them
abbrev pub numbers_in : Numbers → List ℕ
numbers_in (numbers.Narrow s) = map (λ (n : ℕ). n) s.now
numbers_in (numbers.Middle s) = map (λ (n : ℕ). n) s.now
numbers_in (numbers.Wide s) = map (λ (n : ℕ). n) s.now

-- those of all rows
abbrev pub values_of : List Row → List (List ℕ)
values_of rows = map row_values rows

-- the numbers of vectors
abbrev pub items_of : List (Vec ℕ Global) → List (List ℕ)
items_of rows = map (λ (v : Vec ℕ Global). v.items) rows

-- the value of a slot at a clock
abbrev pub value_at : List (List ℕ) → ℕ → ℕ → ℕ
value_at rows t n = slice_index (slice_index_or rows n []) t

-- how many bits the numbers of a row have
abbrev pub row_bits : Row → ℕ
row_bits (row.Narrow v) = 16
row_bits (row.Middle v) = 32
row_bits (row.Wide v) = 64

-- how many bits the numbers of a lane have
abbrev pub bits_of : Size → ℕ
bits_of size.Narrow = 16
bits_of size.Middle = 32
bits_of size.Wide = 64

-- each row is in a lane of no fewer bits than its slot
abbrev pub InLanes : List ℕ → List Row → Type 0
InLanes widths rows = (n : ℕ) → n < length rows → slice_index widths n ≤ slice_index (map row_bits rows) n
