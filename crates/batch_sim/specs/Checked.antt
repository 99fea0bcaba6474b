-- What rows have to show before they count as a run.
use Rattle.std.specs.Prelude.{◌≡◌, ℕ, suc, ◌+◌, ◌<◌, ◌≤◌, Bool, false, List, [], length, slice_index, slice_index_or, slice_get, Some, if◌then◌else◌}
use Rattle.wiring.specs.declared.right.Atom.{Atom}
use Rattle.cycle_sim.specs.OneClock.{port_values}
use Rattle.lane_rows.specs.declared.row.Row.{Row}
use Rattle.lane_rows.specs.Values.{values_of}
use Rattle.batch_rows.specs.Rights.{HasRow}
use Rattle.batch_code.specs.Rows.{KeepsRegister}
use Rattle.batch_guess.specs.declared.inputs.Piece.{Piece}
use Rattle.batch_sim.specs.Called.{of_clock}
use Rattle.batch_sim.specs.Pieces.{HasDins}

-- what an input is given in a clock of a batch that is no reset
abbrev pub input_of : Bool → ℕ → List Bool → List ℕ → ℕ → ℕ → ℕ
input_of has_enable ports enables dins clock input =
    slice_index (port_values has_enable false (slice_index_or enables clock false) (of_clock ports clock dins)) input

-- a row is what an input is given in the clocks of a piece
abbrev pub IsInputRow : Bool → ℕ → Piece → ℕ → List ℕ → Type 0
IsInputRow has_enable ports p input row =
    (t : ℕ) → t < p.count → slice_index row t ≡ input_of has_enable ports p.inputs.enables.now p.inputs.dins.now (p.first + t) input

-- the first rows are those of the inputs
abbrev pub AreInputRows : Bool → ℕ → Piece → ℕ → List (List ℕ) → Type 0
AreInputRows has_enable ports p inputs rows =
    (input : ℕ) → input < inputs → IsInputRow has_enable ports p input (slice_index_or rows input [])

-- the rows of all atoms of a list have this many clocks
abbrev pub HaveAtomRows : List (List ℕ) → ℕ → List (Atom ℕ) → Type 0
HaveAtomRows rows count atoms = (k : ℕ) (a : Atom ℕ) → slice_get atoms k ≡ Some a → HasRow rows count a

-- each register's row is what it holds, and then its next value, a clock later
abbrev pub AreRegisterRows : List (List ℕ) → ℕ → ℕ → List ℕ → List (Atom ℕ) → Type 0
AreRegisterRows rows count first stored nexts =
    (r : ℕ) (next : Atom ℕ) → slice_get nexts r ≡ Some next → KeepsRegister rows count (slice_index stored r) (first + r) next

-- A row begins with this value, and is another row, a clock later.
pub record Follows (row next : List ℕ) (value : ℕ) : Type 0 where
  -- its first number
  pub first : slice_index row 0 ≡ value
  -- and its later ones
  pub later : (t : ℕ) → t < length next → slice_index row (suc t) ≡ slice_index next t

-- all rows have more than this many clocks
abbrev pub AreLonger : List Row → ℕ → Type 0
AreLonger made count = (n : ℕ) → n < length made → count < length (slice_index_or (values_of made) n [])

-- A register's row and that of its next value can be compared over this many clocks.
pub record CanKeep (made : List Row) (spare : List ℕ) (reg : ℕ) (after : Atom ℕ) (count : ℕ) : Type 0 where
  -- it has a row
  pub slot : reg < length made
  -- with one clock more
  pub long : count < length (slice_index_or (values_of made) reg [])
  -- the row of its next value has these clocks
  pub next : HasRow (values_of made) count after
  -- and so has a spare row
  pub room : count ≤ length spare

-- `CanKeep` of all registers with these contents and next values, whose rows begin with the first one.
pub record CanKeepAll (made : List Row) (spare : List ℕ) (first : ℕ) (later : List (Atom ℕ)) (contents : List ℕ) (count : ℕ) : Type 0 where
  -- each register has a row
  pub slots : first + length later ≤ length made
  -- and contents
  pub stored : length contents ≡ length later
  -- each row has one clock more
  pub long : AreLonger made count
  -- the rows of the next values have these clocks
  pub nexts : HaveAtomRows (values_of made) count later
  -- and so has a spare row
  pub room : count ≤ length spare

-- the inputs of a netlist with this many dins: rst, en where there is one, and the dins
abbrev pub inputs_with : Bool → ℕ → ℕ
inputs_with has_enable ports = (if has_enable then 2 else 1) + ports

-- An input's row can be compared with what its port is given in the clocks of a piece.
pub record CanGive (has_enable : Bool) (ports : ℕ) (p : Piece) (number places : ℕ) : Type 0 where
  -- each clock has the dins of all ports
  pub dins : HasDins ports p
  -- there is this input
  pub input : number < inputs_with has_enable ports
  -- its row has these clocks
  pub room : p.count ≤ places
