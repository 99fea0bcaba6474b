-- What a netlist holds within one clock, and what the clock edge makes of it.
use Rattle.std.specs.Prelude.{◌≡◌, ℕ, ◌<◌, ◌≤◌, ◌^◌, List, [], ◌∷◌, ◌++◌, length, slice_index, slice_index_or, slice_get, slice_set, Option, Some, None, All, map, take}
use Rattle.std.specs.List.{AllZip}
use Rattle.wiring.specs.declared.right.Atom.{Atom}
use Rattle.wiring.specs.declared.right.Right.{Right}
use Rattle.wiring.specs.declared.netlist.Net.{Net}
use Rattle.wiring.specs.declared.netlist.Net.TheVariants.{Input, Output, Wire, Reg}
use Rattle.wiring.specs.declared.netlist.Shape.{Shape}
use Rattle.wiring.specs.declared.netlist.Assign.{Assign}
use Rattle.wiring.specs.declared.netlist.Update.{Update}
use Rattle.wiring.specs.declared.netlist.Update.TheVariants.{Set, Put}
use Rattle.wiring.specs.Rights.{operands, array_of, atom_value, right_value}
use Rattle.wiring.specs.Netlist.{Netlist, net_width, depth}

-- what the registers and the arrays hold
pub record Contents : Type 0 where
  pub regs : List ℕ
  pub arrays : List (List ℕ)

-- the values of all nets in one clock, and the contents before its edge
pub record Snapshot : Type 0 where
  pub inputs : List ℕ
  pub outputs : List ℕ
  pub wires : List ℕ
  pub contents : Contents

-- the value of a net in a snapshot; that of a register is the one before the edge
abbrev pub net_value : Snapshot → Net → ℕ
net_value s (Input i) = slice_index s.inputs i
net_value s (Output i) = slice_index s.outputs i
net_value s (Wire i) = slice_index s.wires i
net_value s (Reg i) = slice_index s.contents.regs i

-- a word past an array's end counts as 0
abbrev pub word_value : Snapshot → ℕ → ℕ → ℕ
word_value s a i = slice_index (slice_index_or s.contents.arrays a []) i

-- there is a number for each width, and it is less than 2 to the width
abbrev pub Fit : List ℕ → List ℕ → Type 0
Fit widths values = AllZip (λ w v. v < 2 ^ w) widths values

-- each register holds a number of its width, and each array as many words as it has, of its width
pub record FitsContents (m : Netlist) (c : Contents) : Type 0 where
  pub regs : Fit m.regs c.regs
  pub arrays : AllZip (λ (s : Shape) words. (length words ≡ s.depth) × All (λ w. w < 2 ^ s.width) words) m.arrays c.arrays

-- every assign holds at once
pub record IsSettled (m : Netlist) (s : Snapshot) : Type 0 where
  pub outputs : length s.outputs ≡ length m.outputs
  pub wires : length s.wires ≡ length m.wires
  pub assigns : All (λ (a : Assign). net_value s a.target ≡ right_value (net_width m) (word_value s) (net_value s) a.right) m.assigns

-- the snapshot of a clock that has these inputs and begins with these contents
pub record SnapshotOf (m : Netlist) (before : Contents) (given : List ℕ) (s : Snapshot) : Type 0 where
  pub inputs : s.inputs ≡ given
  pub contents : s.contents ≡ before
  pub settled : IsSettled m s

-- an access to an array: the array, and its index
abbrev pub accesses_at : Option ℕ → List (Atom Net) → List (ℕ × Atom Net)
accesses_at None indices = []
accesses_at (Some m) indices = map (λ i. (m, i)) indices

abbrev pub right_accesses : Right Net ℕ → List (ℕ × Atom Net)
right_accesses r = accesses_at (array_of r) (operands r)

abbrev pub update_accesses : Update → List (ℕ × Atom Net)
update_accesses (Set r a) = []
update_accesses (Put m i a) = (m, i) ∷ []

abbrev pub accesses_of : {X : Type 0} → (X → List (ℕ × Atom Net)) → List X → List (ℕ × Atom Net)
accesses_of f [] = []
accesses_of f (x ∷ xs) = f x ++ accesses_of f xs

-- those of the assigns in their order, then those of the updates
abbrev pub accesses : Netlist → List (ℕ × Atom Net)
accesses m = accesses_of (λ (a : Assign). right_accesses a.right) m.assigns ++ accesses_of update_accesses m.updates

abbrev pub IsInside : Netlist → Snapshot → ℕ × Atom Net → Type 0
IsInside m s access = atom_value (net_value s) access.1 < depth m access.0

-- no access is outside its array
abbrev pub IsInRange : Netlist → Snapshot → Type 0
IsInRange m s = All (IsInside m s) (accesses m)

-- the first access outside its array is to this array at this index
pub record StopsAt (m : Netlist) (s : Snapshot) (array index : ℕ) : Type 0 where
  pub place : ℕ
  pub access : Atom Net
  pub at : slice_get (accesses m) place ≡ Some (array, access)
  pub first : All (IsInside m s) (take place (accesses m))
  pub value : atom_value (net_value s) access ≡ index
  pub outside : depth m array ≤ index

-- what an update does at the edge, by the values before it
abbrev pub TakesPlace : Snapshot → Contents → Update → Type 0
TakesPlace s new (Set r a) = slice_get new.regs r ≡ Some (atom_value (net_value s) a)
TakesPlace s new (Put m i a) = slice_get new.arrays m ≡ Some (slice_set (slice_index_or s.contents.arrays m []) (atom_value (net_value s) i) (atom_value (net_value s) a))

-- the contents after the edge: every register and array takes its update, all at once
pub record IsNext (m : Netlist) (s : Snapshot) (new : Contents) : Type 0 where
  pub regs : length new.regs ≡ length s.contents.regs
  pub arrays : length new.arrays ≡ length s.contents.arrays
  pub updates : All (TakesPlace s new) m.updates

-- each contents and inputs have one snapshot
pub record HasOneSnapshot (m : Netlist) : Type 0 where
  pub some : (c : Contents) (given : List ℕ) → (s : Snapshot) × SnapshotOf m c given s
  pub one : (c : Contents) (given : List ℕ) (s t : Snapshot) → SnapshotOf m c given s → SnapshotOf m c given t → s ≡ t

-- the contents have a place for each register and array
pub record HasPlaces (m : Netlist) (c : Contents) : Type 0 where
  pub regs : length c.regs ≡ length m.regs
  pub arrays : length c.arrays ≡ length m.arrays

-- from contents with these places there is one next contents
pub record HasOneNext (m : Netlist) : Type 0 where
  pub some : (s : Snapshot) → HasPlaces m s.contents → (new : Contents) × IsNext m s new
  pub one : (s : Snapshot) (new other : Contents) → HasPlaces m s.contents → IsNext m s new → IsNext m s other → new ≡ other
