-- Used by private functions only.
-- Marks on nets and arrays, while what the inputs feed is searched.
use Rattle.std.specs.Prelude.{◌≡◌, ◌≢◌, ℕ, suc, ◌+◌, ◌<◌, ◌≤◌, Bool, true, false, ◌||◌, List, [], ◌∷◌, length, slice_get, slice_index_or, Some, All, MatchBool}
use Rattle.wiring.specs.declared.netlist.Net.TheVariants.{Input, Output, Wire, Reg}
use Rattle.wiring.specs.declared.netlist.Holder.{Holder}
use Rattle.wiring.specs.declared.netlist.Holder.TheVariants.{OfNet, OfArray}
use Rattle.wiring.specs.declared.marks.Marks.{Marks}
use Rattle.wiring.specs.Netlist.{Netlist}
use Rattle.wiring.specs.BufferBits.{Drive, IsFed}

abbrev pub is_marked : Marks → Holder → Bool
is_marked d (OfNet (Input i)) = slice_index_or d.inputs.items i false
is_marked d (OfNet (Output i)) = slice_index_or d.outputs.items i false
is_marked d (OfNet (Wire i)) = slice_index_or d.wires.items i false
is_marked d (OfNet (Reg i)) = slice_index_or d.regs.items i false
is_marked d (OfArray x) = slice_index_or d.arrays.items x false

abbrev pub any_marked : Marks → List Holder → Bool
any_marked d [] = false
any_marked d (h ∷ hs) = is_marked d h || any_marked d hs

-- there is a place for its mark
abbrev pub HasMark : Marks → Holder → Type 0
HasMark d (OfNet (Input i)) = i < length d.inputs.items
HasMark d (OfNet (Output i)) = i < length d.outputs.items
HasMark d (OfNet (Wire i)) = i < length d.wires.items
HasMark d (OfNet (Reg i)) = i < length d.regs.items
HasMark d (OfArray x) = x < length d.arrays.items

-- there is a place for each mark
pub record HasMarks (m : Netlist) (d : Marks) : Type 0 where
  pub inputs : length d.inputs.items ≡ length m.inputs
  pub outputs : length d.outputs.items ≡ length m.outputs
  pub wires : length d.wires.items ≡ length m.wires
  pub regs : length d.regs.items ≡ length m.regs
  pub arrays : length d.arrays.items ≡ length m.arrays

abbrev pub unmarked : List Bool → ℕ
unmarked [] = 0
unmarked (true ∷ marks) = unmarked marks
unmarked (false ∷ marks) = suc (unmarked marks)

-- how many have no mark
abbrev pub gap : Marks → ℕ
gap d = unmarked d.inputs.items + unmarked d.outputs.items + unmarked d.wires.items + unmarked d.regs.items + unmarked d.arrays.items

-- one mark more
pub record Adds (old new : Marks) (h : Holder) : Type 0 where
  pub added : is_marked new h ≡ true
  pub others : (k : Holder) → k ≢ h → is_marked new k ≡ is_marked old k
  pub nearer : suc (gap new) ≡ gap old
  pub size : (m : Netlist) → HasMarks m old → HasMarks m new

-- only what is in the set has a mark
abbrev pub IsSound : Netlist → Marks → Type 0
IsSound m d = (h : Holder) → is_marked d h ≡ true → IsFed m h

-- what has a mark keeps it, and only what is in the set gets one
pub record Spreads (m : Netlist) (old new : Marks) : Type 0 where
  pub kept : (h : Holder) → is_marked old h ≡ true → is_marked new h ≡ true
  pub sound : IsSound m old → IsSound m new
  pub nearer : gap new ≤ gap old
  pub size : HasMarks m old → HasMarks m new

-- something that is read has a mark, and the target has none
pub record IsOpen (d : Marks) (drive : Drive) (h : Holder) : Type 0 where
  pub reads : any_marked d drive.reads ≡ true
  pub target : drive.target ≡ h
  pub free : is_marked d h ≡ false

abbrev pub IsClosed : Marks → Drive → Type 0
IsClosed d drive = any_marked d drive.reads ≡ true → is_marked d drive.target ≡ true

-- the drives of all of these are closed
abbrev pub AreClosed : {X : Type 0} → Marks → (drive : X → Drive) → List X → Type 0
AreClosed {X} d drive xs = All (λ (x : X). IsClosed d (drive x)) xs

-- the drive of one of these is open, and drives h
abbrev pub IsOpenAmong : {X : Type 0} → Marks → (drive : X → Drive) → List X → Holder → Type 0
IsOpenAmong {X} d drive xs h = (k : ℕ) × (x : X) × (slice_get xs k ≡ Some x) × IsOpen d (drive x) h

-- true: the drive is open, at its target; false: it is closed
abbrev pub TestsOpen : Bool → Marks → Drive → Type 0
TestsOpen result d drive = MatchBool result (IsOpen d drive drive.target) (IsClosed d drive)
