-- Lanes in which instructions are run.
use Rattle.std.specs.Prelude.{◌≡◌, ℕ, ◌≤◌, List, length, slice_index, slice_get, Some, All, Contains}
use Rattle.wiring.specs.Sizes.{SizedNumber}
use Rattle.wiring.specs.declared.right.Atom.{Atom}
use Rattle.wiring.specs.declared.right.Atom.TheVariants as atom
use Rattle.wiring.specs.declared.right.Right.{Right}
use Rattle.wiring.specs.declared.right.Right.TheVariants.{Copy, Not, Binary, Choose, Join, Repeat, Bit, Slice, Word}
use Rattle.wiring.specs.Rights.{nets_of, constants_of}
use Rattle.batch_rows.specs.declared.code.Instruction.{Instruction}
use Rattle.lane_rows.specs.declared.row.Size.{Size}
use Rattle.batch_rows.specs.declared.code.Scratch.{Scratch}
use Rattle.batch_rows.specs.declared.code.Rooms.{Rooms}
use Rattle.batch_rows.specs.Rights.{HaveRoom}
use Rattle.lane_rows.specs.Values.{bits_of}

-- the slots and the constants of an instruction have no more bits than this
pub record IsSized (widths : List ℕ) (bits : ℕ) (i : Instruction) : Type 0 where
  pub slots : (n : ℕ) → Contains (nets_of i.right) n → slice_index widths n ≤ bits
  pub constants : All (λ (c : SizedNumber). c.width ≤ bits) (constants_of i.right)
  pub target : slice_index widths i.target ≤ bits

-- each instruction is run in a lane that holds its slots and constants
pub record AreSized (widths : List ℕ) (code : List Instruction) (sizes : List Size) : Type 0 where
  pub count : length sizes ≡ length code
  pub each : (k : ℕ) (i : Instruction) (s : Size) → slice_get code k ≡ Some i → slice_get sizes k ≡ Some s → IsSized widths (bits_of s) i

-- room in a lane for instructions over this many clocks
abbrev pub HasScratch : {T : Type 0} → Scratch T → ℕ → Type 0
HasScratch b count = (length b.to.items ≡ count) × HaveRoom b.spares count

-- room of all lanes
pub record HaveRooms (r : Rooms) (count : ℕ) : Type 0 where
  pub narrow : HasScratch r.narrow count
  pub middle : HasScratch r.middle count
  pub wide : HasScratch r.wide count

-- an atom has no more bits than this
abbrev pub AtomIsIn : List ℕ → ℕ → Atom ℕ → Type 0
AtomIsIn widths bits (atom.Net n) = slice_index widths n ≤ bits
AtomIsIn widths bits (atom.Constant c) = c.width ≤ bits

-- nor has any operand of a right side
abbrev pub RightIsIn : List ℕ → ℕ → Right ℕ ℕ → Type 0
RightIsIn widths bits (Copy a) = AtomIsIn widths bits a
RightIsIn widths bits (Not a) = AtomIsIn widths bits a
RightIsIn widths bits (Binary o a b) = AtomIsIn widths bits a × AtomIsIn widths bits b
RightIsIn widths bits (Choose c a b) = AtomIsIn widths bits c × AtomIsIn widths bits a × AtomIsIn widths bits b
RightIsIn widths bits (Join a b) = AtomIsIn widths bits a × AtomIsIn widths bits b
RightIsIn widths bits (Repeat n a) = AtomIsIn widths bits a
RightIsIn widths bits (Bit v k) = slice_index widths v ≤ bits
RightIsIn widths bits (Slice v m l) = slice_index widths v ≤ bits
RightIsIn widths bits (Word m i) = AtomIsIn widths bits i

-- a width of at most 64 bits that is no less than another one and than the operands of a right side. One atom is compared as `Copy`,
-- two as `Join` and three as `Choose` have them
pub record IsWider (widths : List ℕ) (least wider : ℕ) (r : Right ℕ ℕ) : Type 0 where
  pub most : wider ≤ 64
  pub width : least ≤ wider
  pub right : RightIsIn widths wider r
