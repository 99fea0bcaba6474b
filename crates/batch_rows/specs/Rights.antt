-- Rows of right sides over slots.
use Rattle.std.specs.Prelude.{◌≡◌, ℕ, ◌^◌, ◌<◌, ◌≤◌, List, [], None, length, map, slice_index, slice_index_or}
use Rattle.wiring.specs.declared.right.Atom.{Atom}
use Rattle.wiring.specs.declared.right.Atom.TheVariants as atom
use Rattle.wiring.specs.declared.right.Right.{Right}
use Rattle.wiring.specs.declared.right.Right.TheVariants.{Copy, Not, Binary, Choose, Join, Repeat, Bit, Slice, Word}
use Rattle.wiring.specs.Rights.{array_of, atom_width, atom_value, right_value}
use Rattle.wiring.specs.Rules.{WidthsAgree}
use Rattle.batch_rows.specs.declared.rights.Operand.{Operand}
use Rattle.batch_rows.specs.declared.rights.Slots.{Slots}
use Rattle.batch_rows.specs.declared.rights.Spares.{Spares}
use Rattle.batch_rows.specs.Rows.{number_in, choice}
use Rattle.lane_rows.specs.Values.{value_at, values_of}

-- the row of an atom has this many clocks
abbrev pub HasRow : List (List ℕ) → ℕ → Atom ℕ → Type 0
HasRow rows count (atom.Net n) = (n < length rows) × (count ≤ length (slice_index_or rows n []))
HasRow rows count (atom.Constant c) = Unit {0}

-- an atom has a row of this many clocks whose values fit a lane of this many bits, or is a constant that does
abbrev pub IsOperand : ℕ → List (List ℕ) → ℕ → Atom ℕ → Type 0
IsOperand bits rows count (atom.Net n) = HasRow rows count (atom.Net n) × ((t : ℕ) → t < count → value_at rows t n < 2 ^ bits)
IsOperand bits rows count (atom.Constant c) = c.value < 2 ^ bits

-- and so have all operands of a right side, with no more bits than the lane where masks are made of their widths
abbrev pub AreOperands : ℕ → List ℕ → List (List ℕ) → ℕ → Right ℕ ℕ → Type 0
AreOperands bits widths rows count (Copy a) = IsOperand bits rows count a
AreOperands bits widths rows count (Not a) = IsOperand bits rows count a × (atom_width (λ n. slice_index widths n) a ≤ bits)
AreOperands bits widths rows count (Binary o a b) = IsOperand bits rows count a × IsOperand bits rows count b × (atom_width (λ n. slice_index widths n) a ≤ bits)
AreOperands bits widths rows count (Choose c a b) = IsOperand bits rows count c × IsOperand bits rows count a × IsOperand bits rows count b
AreOperands bits widths rows count (Join a b) = IsOperand bits rows count a × IsOperand bits rows count b × (atom_width (λ n. slice_index widths n) b ≤ bits)
AreOperands bits widths rows count (Repeat n a) = IsOperand bits rows count a
AreOperands bits widths rows count (Bit v k) = IsOperand bits rows count (atom.Net v) × (slice_index widths v ≤ bits)
AreOperands bits widths rows count (Slice v m l) = IsOperand bits rows count (atom.Net v) × (slice_index widths v ≤ bits)
AreOperands bits widths rows count (Word m i) = IsOperand bits rows count i

-- a row is that of an atom
abbrev pub IsAtomRow : List (List ℕ) → Atom ℕ → ℕ → List ℕ → Type 0
IsAtomRow rows a count row = (t : ℕ) → t < count → slice_index row t ≡ atom_value (value_at rows t) a

-- a row is that of a right side that reads no array
abbrev pub IsRightRow : List ℕ → List (List ℕ) → Right ℕ ℕ → List ℕ → Type 0
IsRightRow widths rows r row = (t : ℕ) → t < length row → slice_index row t ≡ right_value (λ n. slice_index widths n) (λ _ _. 0) (value_at rows t) r

-- room for this many clocks
abbrev pub HaveRoom : {T : Type 0} → Spares T → ℕ → Type 0
HaveRoom s count = (count ≤ length s.first.items) × (count ≤ length s.second.items) × (count ≤ length s.third.items)

-- each spare row has as many places as before
pub record KeepsRoom {T : Type 0} (old new : Spares T) : Type 0 where
  pub first : length new.first.items ≡ length old.first.items
  pub second : length new.second.items ≡ length old.second.items
  pub third : length new.third.items ≡ length old.third.items

-- a width, which is at most 64
pub record IsWidthOf (bits result : ℕ) : Type 0 where
  pub width : result ≡ bits
  pub narrow : result ≤ 64

-- an atom that can be read in a lane of this many bits, with a spare row of this many places
pub record CanRead (bits : ℕ) (rows : List (List ℕ)) (count places : ℕ) (operand : Atom ℕ) : Type 0 where
  pub a : IsOperand bits rows count operand
  pub room : count ≤ places

-- a row of a lane is that of an atom, and has no more clocks than this
pub record IsRowOf {A : Type 0} (value : A → ℕ) (rows : List (List ℕ)) (a : Atom ℕ) (clocks : ℕ) (read : List A) : Type 0 where
  pub count : length read ≡ clocks
  pub row : IsAtomRow rows a clocks (map value read)

-- the same of an operand, in its first clocks
abbrev pub CanReadOperand : (bits : ℕ) → Operand → (places : ℕ) → Type 0
CanReadOperand bits o places = CanRead bits (values_of o.rows.now) o.count places o.atom.now

abbrev pub IsRowOfOperand : {A : Type 0} → (A → ℕ) → Operand → List A → Type 0
IsRowOfOperand value o row = IsRowOf value (values_of o.rows.now) o.atom.now o.count row

-- a row that may be longer begins with that of an operand
abbrev pub IsFilled : {A : Type 0} → (A → ℕ) → Operand → List A → Type 0
IsFilled value o row = IsAtomRow (values_of o.rows.now) o.atom.now o.count (map value row)

-- a right side that reads no array can be made in a row of a lane of this many bits, with spare rows
pub record CanMake {T : Type 0} (bits : ℕ) (slots : Slots) (spares : Spares T) (to : List T) (r : Right ℕ ℕ) : Type 0 where
  pub operands : AreOperands bits slots.widths.now (values_of slots.rows.now) (length to) r
  pub agree : WidthsAgree (λ n. slice_index slots.widths.now n) (λ _. 0) r
  pub plain : array_of r ≡ None
  pub fits : (t : ℕ) → t < length to → right_value (λ n. slice_index slots.widths.now n) (λ _ _. 0) (value_at (values_of slots.rows.now) t) r < 2 ^ bits
  pub room : HaveRoom spares (length to)

-- the row of a right side was written
pub record IsMade {A : Type 0} (value : A → ℕ) (slots : Slots) (r : Right ℕ ℕ) (old new : Spares A) (before to : List A) : Type 0 where
  pub spares : KeepsRoom old new
  pub count : length to ≡ length before
  pub row : IsRightRow slots.widths.now (values_of slots.rows.now) r (map value to)

-- one of two atoms can be chosen at each clock of a row, by a row of bits, in a lane of this many bits
pub record CanChoose {A B : Type 0} (lane : ℕ) (rows : List (List ℕ)) (to : List A) (bits : List B) (ones others : Atom ℕ) : Type 0 where
  pub bit : length bits ≡ length to
  pub on : IsOperand lane rows (length to) ones
  pub off : IsOperand lane rows (length to) others

-- one of two atoms was written at each clock, by its bit
pub record IsChosen {A B : Type 0} (value : A → ℕ) (bit : B → ℕ) (rows : List (List ℕ)) (bits : List B) (ones others : Atom ℕ) (old new : List A) : Type 0 where
  pub count : length new ≡ length old
  pub row : (t : ℕ) → t < length new → slice_index (map value new) t ≡ choice (number_in bit bits t) (atom_value (value_at rows t) ones) (atom_value (value_at rows t) others)
