-- The first instruction that uses each slot.
use Rattle.std.specs.Prelude.{◌≡◌, ℕ, ◌<◌, ◌≤◌, List, length, slice_index, slice_get, Some, Contains}
use Rattle.wiring.specs.declared.right.Atom.{Atom}
use Rattle.wiring.specs.declared.right.Atom.TheVariants as atom
use Rattle.wiring.specs.declared.right.Right.{Right}
use Rattle.wiring.specs.declared.right.Right.TheVariants.{Copy, Not, Binary, Choose, Join, Repeat, Bit, Slice, Word}
use Rattle.wiring.specs.Rights.{nets_of}
use Rattle.batch_rows.specs.declared.code.Instruction.{Instruction}

-- no number grows
abbrev pub LastNo : (old new : List ℕ) → Type 0
LastNo old new = (n : ℕ) → slice_index new n ≤ slice_index old n

-- an instruction of this number or one before it uses the slot of an atom
abbrev pub AtomUsed : List ℕ → ℕ → Atom ℕ → Type 0
AtomUsed uses number (atom.Net n) = slice_index uses n ≤ number
AtomUsed uses number (atom.Constant c) = Unit {0}

abbrev pub RightUsed : List ℕ → ℕ → Right ℕ ℕ → Type 0
RightUsed uses number (Copy a) = AtomUsed uses number a
RightUsed uses number (Not a) = AtomUsed uses number a
RightUsed uses number (Binary o a b) = AtomUsed uses number a × AtomUsed uses number b
RightUsed uses number (Choose c a b) = AtomUsed uses number c × AtomUsed uses number a × AtomUsed uses number b
RightUsed uses number (Join a b) = AtomUsed uses number a × AtomUsed uses number b
RightUsed uses number (Repeat n a) = AtomUsed uses number a
RightUsed uses number (Bit v k) = slice_index uses v ≤ number
RightUsed uses number (Slice v m l) = slice_index uses v ≤ number
RightUsed uses number (Word m i) = AtomUsed uses number i

-- the operands of a right side were noted as used by the instruction of this number. One atom is noted as `Copy`, two as `Join` and
-- three as `Choose` have them
pub record AreNoted (old new : List ℕ) (number : ℕ) (right : Right ℕ ℕ) : Type 0 where
  pub last : LastNo old new
  pub used : RightUsed new number right

-- no one of the first n instructions reads or writes a slot before its first use
pub record AreFirstUsesOf (count : ℕ) (code : List Instruction) (uses : List ℕ) : Type 0 where
  pub reads : (p n : ℕ) (i : Instruction) → p < count → slice_get code p ≡ Some i → Contains (nets_of i.right) n → slice_index uses n ≤ p
  pub writes : (p : ℕ) (i : Instruction) → p < count → slice_get code p ≡ Some i → slice_index uses i.target ≤ p

abbrev pub AreFirstUses : List Instruction → List ℕ → Type 0
AreFirstUses code uses = AreFirstUsesOf (length code) code uses
