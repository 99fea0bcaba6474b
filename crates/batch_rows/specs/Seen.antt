-- Slots that are marked.
use Rattle.std.specs.Prelude.{◌≡◌, ℕ, ◌<◌, ◌≤◌, Bool, true, false, IsTrue, List, slice_index_or, slice_get, Some, Contains}
use Rattle.wiring.specs.declared.right.Atom.{Atom}
use Rattle.wiring.specs.declared.right.Atom.TheVariants as atom
use Rattle.wiring.specs.declared.right.Right.{Right}
use Rattle.wiring.specs.declared.right.Right.TheVariants.{Copy, Not, Binary, Choose, Join, Repeat, Bit, Slice, Word}
use Rattle.wiring.specs.Rights.{nets_of}
use Rattle.batch_rows.specs.declared.code.Instruction.{Instruction}

abbrev pub IsSeen : List Bool → ℕ → Type 0
IsSeen seen n = slice_index_or seen n false ≡ true

abbrev pub AtomSeen : List Bool → Atom ℕ → Type 0
AtomSeen seen (atom.Net n) = IsSeen seen n
AtomSeen seen (atom.Constant c) = Unit {0}

abbrev pub RightSeen : List Bool → Right ℕ ℕ → Type 0
RightSeen seen (Copy a) = AtomSeen seen a
RightSeen seen (Not a) = AtomSeen seen a
RightSeen seen (Binary o a b) = AtomSeen seen a × AtomSeen seen b
RightSeen seen (Choose c a b) = AtomSeen seen c × AtomSeen seen a × AtomSeen seen b
RightSeen seen (Join a b) = AtomSeen seen a × AtomSeen seen b
RightSeen seen (Repeat n a) = AtomSeen seen a
RightSeen seen (Bit v k) = IsSeen seen v
RightSeen seen (Slice v m l) = IsSeen seen v
RightSeen seen (Word m i) = AtomSeen seen i

-- what was marked stays so
abbrev pub Keeps : (old new : List Bool) → Type 0
Keeps old new = (n : ℕ) → IsSeen old n → IsSeen new n

-- operands were marked, if there was a place for each. One atom is marked as `Copy` and two as `Join` have them
pub record AreMarked (old new : List Bool) (all : Bool) (right : Right ℕ ℕ) : Type 0 where
  pub keeps : Keeps old new
  pub marked : IsTrue all → RightSeen new right

-- the slots of an instruction were marked, and its target is new, if this is true
pub record GoesOn (old new : List Bool) (goes : Bool) (i : Instruction) : Type 0 where
  pub keeps : Keeps old new
  pub right : IsTrue goes → RightSeen new i.right
  pub target : IsTrue goes → IsSeen new i.target
  pub fresh : IsTrue goes → IsSeen old i.target → ⊥
  pub apart : IsTrue goes → Contains (nets_of i.right) i.target → ⊥

-- the slots of the first n instructions are marked, and none of these writes what one before it, or itself, reads or has written
pub record IsOrderedUpTo (seen : List Bool) (k : ℕ) (code : List Instruction) : Type 0 where
  pub read : (p : ℕ) (i : Instruction) → p < k → slice_get code p ≡ Some i → RightSeen seen i.right
  pub written : (p : ℕ) (i : Instruction) → p < k → slice_get code p ≡ Some i → IsSeen seen i.target
  pub reads : (p q : ℕ) (i j : Instruction) → p ≤ q → q < k → slice_get code p ≡ Some i → slice_get code q ≡ Some j → Contains (nets_of i.right) j.target → ⊥
  pub writes : (p q : ℕ) (i j : Instruction) → p < q → q < k → slice_get code p ≡ Some i → slice_get code q ≡ Some j → i.target ≡ j.target → ⊥
