-- Instructions over rows.
use Rattle.std.specs.Prelude.{◌≡◌, ◌≢◌, ℕ, ◌^◌, ◌<◌, ◌≤◌, List, [], length, map, slice_index, slice_index_or, slice_get, Some, None, All, Contains}
use Rattle.wiring.specs.Sizes.{IsConstant}
use Rattle.wiring.specs.Rights.{array_of, nets_of, constants_of, right_value, right_width}
use Rattle.wiring.specs.Rules.{WidthsAgree}
use Rattle.batch_rows.specs.declared.code.Instruction.{Instruction}
use Rattle.batch_rows.specs.LaneSizes.{IsSized, AreSized}
use Rattle.batch_rows.specs.Rights.{IsRightRow}
use Rattle.lane_rows.specs.declared.row.Row.{Row}
use Rattle.lane_rows.specs.declared.row.Size.{Size}
use Rattle.lane_rows.specs.Values.{InLanes, row_bits, value_at, values_of}

-- as many rows as widths, each of this many values that fit
pub record AreRows (widths : List ℕ) (count : ℕ) (rows : List (List ℕ)) : Type 0 where
  pub slots : length rows ≡ length widths
  pub long : (n : ℕ) → n < length rows → length (slice_index_or rows n []) ≡ count
  pub fit : (n t : ℕ) → n < length rows → t < count → value_at rows t n < 2 ^ slice_index widths n

-- an instruction reads and writes slots that there are, its widths agree, and it reads no array
pub record IsSound (widths : List ℕ) (i : Instruction) : Type 0 where
  pub target : i.target < length widths
  pub slots : (n : ℕ) → Contains (nets_of i.right) n → n < length widths
  pub constants : All IsConstant (constants_of i.right)
  pub agree : WidthsAgree (λ n. slice_index widths n) (λ _. 0) i.right
  pub plain : array_of i.right ≡ None
  pub narrow : slice_index widths i.target ≤ 64
  pub width : right_width (λ n. slice_index widths n) (λ _. 0) i.right ≡ slice_index widths i.target

abbrev pub AreSound : List ℕ → List Instruction → Type 0
AreSound widths code = All (IsSound widths) code

-- no instruction writes a slot that one before it, or itself, reads or has written
pub record IsOrdered (code : List Instruction) : Type 0 where
  pub reads : (p q : ℕ) (i j : Instruction) → p ≤ q → slice_get code p ≡ Some i → slice_get code q ≡ Some j → Contains (nets_of i.right) j.target → ⊥
  pub writes : (p q : ℕ) (i j : Instruction) → p < q → slice_get code p ≡ Some i → slice_get code q ≡ Some j → i.target ≡ j.target → ⊥

-- the equation of an instruction at a clock
abbrev pub HoldsAt : List ℕ → List (List ℕ) → ℕ → Instruction → Type 0
HoldsAt widths rows t i = value_at rows t i.target ≡ right_value (λ n. slice_index widths n) (λ _ _. 0) (value_at rows t) i.right

-- those of the first n instructions, at each of this many clocks
abbrev pub AllHold : List ℕ → ℕ → List (List ℕ) → ℕ → List Instruction → Type 0
AllHold widths count rows k code = (p t : ℕ) (i : Instruction) → p < k → t < count → slice_get code p ≡ Some i → HoldsAt widths rows t i

-- no instruction writes this slot
abbrev pub IsNoTarget : List Instruction → ℕ → Type 0
IsNoTarget code n = (k : ℕ) (i : Instruction) → slice_get code k ≡ Some i → n ≢ i.target

-- instructions that can be run one after another, each in a lane that holds its slots and constants
pub record CanRun (widths : List ℕ) (code : List Instruction) (sizes : List Size) : Type 0 where
  pub sound : AreSound widths code
  pub sized : AreSized widths code sizes
  pub ordered : IsOrdered code

-- the first k instructions were run over rows of this many places: their equations hold, each row is in a lane that holds its slot, and
-- all values fit
pub record HaveRun (widths : List ℕ) (code : List Instruction) (count : ℕ) (made : List Row) (k : ℕ) : Type 0 where
  pub rows : AreRows widths count (values_of made)
  pub lanes : InLanes widths made
  pub hold : AllHold widths count (values_of made) k code

-- a stretch of instructions, from one place up to another
pub record IsStretch (first last count : ℕ) : Type 0 where
  pub order : first ≤ last
  pub within : last ≤ count

-- an instruction can be run over rows of this many places, in a lane of this many bits
pub record CanRunIn (bits : ℕ) (widths : List ℕ) (clocks : ℕ) (made : List Row) (i : Instruction) : Type 0 where
  pub sound : IsSound widths i
  pub sized : IsSized widths bits i
  pub rows : AreRows widths clocks (values_of made)

-- the row of an instruction was put into its slot, and no other row has changed
pub record RowIsPut (widths : List ℕ) (clocks : ℕ) (i : Instruction) (old new : List Row) : Type 0 where
  pub bits : map row_bits new ≡ map row_bits old
  pub count : length new ≡ length old
  pub long : length (slice_index_or (values_of new) i.target []) ≡ clocks
  pub row : IsRightRow widths (values_of old) i.right (slice_index_or (values_of new) i.target [])
  pub others : (n : ℕ) → n ≢ i.target → slice_index_or (values_of new) n [] ≡ slice_index_or (values_of old) n []

-- rows over which the instructions were run up to this place: those of slots that are no target have not changed
pub record RowsAreRun (widths : List ℕ) (code : List Instruction) (clocks : ℕ) (old new : List Row) (last : ℕ) : Type 0 where
  pub bits : map row_bits new ≡ map row_bits old
  pub count : length new ≡ length old
  pub ran : HaveRun widths code clocks new last
  pub others : (n : ℕ) → IsNoTarget code n → slice_index_or (values_of new) n [] ≡ slice_index_or (values_of old) n []
