-- Registers and arrays, and what they take at a clock edge.
use Rattle.std.specs.Prelude.{◌≡◌, ◌⊎◌, ◌+◌, ◌<◌, ℕ, List, [], length, slice_get, slice_set, slice_index_or, Some, Contains}
use Rattle.wiring.specs.declared.right.Atom.TheVariants as atom
use Rattle.wiring.specs.declared.netlist.Net.{Net}
use Rattle.wiring.specs.declared.netlist.Shape.{Shape}
use Rattle.wiring.specs.declared.netlist.Holder.TheVariants.{OfNet, OfArray}
use Rattle.wiring.specs.declared.netlist.Update.TheVariants.{Set, Put}
use Rattle.wiring.specs.Netlist.{Netlist, net_width, word_width}
use Rattle.wiring.specs.Snapshot.{net_value}
use Rattle.net_build.specs.Includes.{Includes, AtEachEdge}
use Rattle.net_build.specs.Draft.{IsNet, IsFree, IsRegister, number, with_array, with_update}
use Rattle.net_build.specs.Runs.{NeverStops, StaysInside}
use Rattle.net_build.specs.Control.{IsControlled, IsControlBut, KeepsControl}
use Rattle.net_build.specs.Depth.{IsWithin, is_start, control_levels}

-- how many registers and arrays there are
abbrev pub state_count : Netlist → ℕ
state_count b = length b.regs + length b.arrays

-- an array of this shape is added, which has no update yet
pub record AddsArray (new old : Netlist) (s : Shape) (x : ℕ) : Type 0 where
  -- the old netlist stays
  pub includes : Includes new old
  -- the array is the last one
  pub number : x ≡ length old.arrays
  -- it has this shape
  pub shape : slice_get new.arrays x ≡ Some s
  -- it has no update
  pub free : IsFree new (OfArray x)
  -- nothing else is added
  pub made : new ≡ with_array old s
  -- no access is outside its array, if none was
  pub stops : NeverStops old → NeverStops new
  -- registers that take only control nets still do
  pub control : KeepsControl new old

-- register n can take the net v
pub record CanSet (b : Netlist) (n v : Net) : Type 0 where
  -- it is a register
  pub reg : IsRegister b n
  -- the net is there
  pub value : IsNet b v
  -- it is as wide as the register
  pub width : net_width b v ≡ net_width b n

-- register n takes the net v at each clock edge
pub record Sets (new old : Netlist) (n v : Net) : Type 0 where
  -- the old netlist stays
  pub includes : Includes new old
  -- the update is the only one that is added
  pub update : new ≡ with_update old (Set (number n) (atom.Net v))
  -- after an edge the register holds the net's value
  pub edge : AtEachEdge new (λ s next. slice_get next.regs (number n) ≡ Some (net_value s v))
  -- no access is outside its array, if none was
  pub stops : NeverStops old → NeverStops new
  -- registers stay controlled, if this one is a copy or the net is made of rst, en and registers that are no copies, and if its paths are short
  pub control : (copies : List ℕ) → IsControlled old copies → Contains copies (number n) ⊎ IsControlBut new copies (OfNet v) → IsWithin new is_start (control_levels new.enable) (OfNet v) → IsControlled new copies

-- a word of array x, at the index i, can take the net v
pub record CanPut (b : Netlist) (x : ℕ) (i v : Net) : Type 0 where
  -- the array is there
  pub array : x < length b.arrays
  -- the index is there
  pub index : IsNet b i
  -- the net is there
  pub value : IsNet b v
  -- it is as wide as a word
  pub width : net_width b v ≡ word_width b x
  -- the array has no update yet
  pub free : IsFree b (OfArray x)

-- the word of array x at the index i takes the net v at each clock edge
pub record Puts (new old : Netlist) (x : ℕ) (i v : Net) : Type 0 where
  -- the old netlist stays
  pub includes : Includes new old
  -- the update is the only one that is added
  pub update : new ≡ with_update old (Put x (atom.Net i) (atom.Net v))
  -- an edge changes only the word at the index
  pub edge : AtEachEdge new (λ s next. slice_get next.arrays x ≡ Some (slice_set (slice_index_or s.contents.arrays x []) (net_value s i) (net_value s v)))
  -- no access is outside its array, if none was and the index is inside
  pub stops : NeverStops old → StaysInside new (x, atom.Net i) → NeverStops new
  -- registers that take only control nets still do
  pub control : KeepsControl new old
