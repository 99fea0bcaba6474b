-- The rows of all slots, while instructions are run and free slots are filled.
use Rattle.std.specs.Prelude.{◌≡◌, ◌≢◌, ℕ, ◌^◌, ◌<◌, List, [], length, map, slice_index, slice_index_or}
use Rattle.lane_rows.specs.declared.row.Row.{Row}
use Rattle.lane_rows.specs.Values.{InLanes, row_bits, value_at, values_of}
use Rattle.batch_rows.specs.declared.code.Instruction.{Instruction}
use Rattle.batch_rows.specs.Code.{HaveRun}
use Rattle.batch_rows.specs.LaneSizes.{HaveRooms}
use Rattle.batch_guess.specs.declared.table.Table.{Table}

-- each spare row has this many places
pub record HaveSpares (t : Table) (long : ℕ) : Type 0 where
  pub wide : length t.room.items ≡ long
  pub narrow : length t.narrow.items ≡ long
  pub middle : length t.middle.items ≡ long

-- the first n instructions were run over a table's rows, of this many places, and there is room for more
pub record IsTable (widths : List ℕ) (code : List Instruction) (long : ℕ) (t : Table) (done : ℕ) : Type 0 where
  pub ran : HaveRun widths code long t.rows.items done
  pub spares : HaveSpares t long
  pub rooms : HaveRooms t.rooms long

-- a row of this many places can be put into a slot
pub record CanPut (widths : List ℕ) (n places : ℕ) (rows : List Row) : Type 0 where
  pub slot : n < length rows
  pub lanes : InLanes widths rows
  pub long : length (slice_index_or (values_of rows) n []) ≡ places

-- a row whose values fit was put into a slot, in the lane of that before it: no other row has changed
pub record SlotIsPut (widths : List ℕ) (slot : ℕ) (old new : List Row) : Type 0 where
  pub bits : map row_bits new ≡ map row_bits old
  pub count : length new ≡ length old
  pub long : length (slice_index_or (values_of new) slot []) ≡ length (slice_index_or (values_of old) slot [])
  pub fit : (t : ℕ) → t < length (slice_index_or (values_of old) slot []) → value_at (values_of new) t slot < 2 ^ slice_index widths slot
  pub others : (n : ℕ) → n ≢ slot → slice_index_or (values_of new) n [] ≡ slice_index_or (values_of old) n []

-- only the spare rows are others, of as many places
pub record IsRefilled (old new : Table) : Type 0 where
  pub rows : new.rows ≡ old.rows
  pub rooms : new.rooms ≡ old.rooms
  pub room : length new.room.items ≡ length old.room.items
  pub narrow : length new.narrow.items ≡ length old.narrow.items
  pub middle : length new.middle.items ≡ length old.middle.items
