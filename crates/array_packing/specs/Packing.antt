-- A netlist whose arrays are packed: each word of an array of the old netlist is some bits of a word of an array of the new one.
use Rattle.std.specs.Prelude.{◌≡◌, ◌↔◌, ℕ, Bool, false, if◌then◌else◌, suc, ◌+◌, ◌<◌, ◌/◌, ◌%◌, ◌^◌, ◌≤◌, List, length, map, take, slice_get, slice_index_or, Some, Contains, All, [], ◌∷◌}
use Rattle.std.specs.List.{AllZip}
use Rattle.wiring.specs.declared.right.Atom.{Atom}
use Rattle.wiring.specs.declared.right.Atom.TheVariants as atom
use Rattle.wiring.specs.declared.right.Right.{Right}
use Rattle.wiring.specs.declared.right.Right.TheVariants.{Join, Slice, Word}
use Rattle.wiring.specs.declared.netlist.Net.{Net}
use Rattle.wiring.specs.declared.netlist.Shape.{Shape}
use Rattle.wiring.specs.declared.netlist.Assign.{Assign}
use Rattle.wiring.specs.declared.netlist.Update.{Update}
use Rattle.wiring.specs.declared.netlist.Update.TheVariants.{Set, Put}
use Rattle.wiring.specs.Rights.{atom_width}
use Rattle.wiring.specs.Netlist.{Netlist, net_width, word_width}
use Rattle.wiring.specs.BufferBits.{IsBufferBits, array_bits}
use Rattle.net_build.specs.Indices.{indices_of, read_indices, put_indices}
use Rattle.array_packing.specs.declared.slots.Slot.{Slot}
use Rattle.module_pass.specs.Simulation.{View}

abbrev pub bits_at : (low width : ℕ) → ℕ → ℕ
bits_at low width n = n / 2 ^ low % 2 ^ width

-- what an old array would hold
abbrev pub words_seen : List (List ℕ) → Slot → List ℕ
words_seen arrays k = map (bits_at k.low k.width) (slice_index_or arrays k.array [])

-- registers are as they were, the first wires are the old ones, and each old array is where its slot says
abbrev pub packed : Netlist → List Slot → View
packed old slots = record {
  contents = λ c. record { regs = c.regs; arrays = map (words_seen c.arrays) slots };
  wires = λ t. take (length old.wires) t.wires;
}

abbrev pub assign : Net → Right Net ℕ → Assign
assign n r = record { target = n; right = r }

-- the net is the word of the slot at this index: the whole word, or a slice of it
pub data IsReadAt (new : Netlist) (k : Slot) (i : Atom Net) (n : Net) : Type 0 where
  as_word : k.low ≡ 0 → word_width new k.array ≡ k.width → Contains new.assigns (assign n (Word k.array i)) → IsReadAt new k i n
  as_slice : (p : Net) (top : ℕ) → k.low ≤ top → top + 1 ≡ k.low + k.width → Contains new.assigns (assign p (Word k.array i)) → Contains new.assigns (assign n (Slice p top k.low)) → IsReadAt new k i n

-- in a value, which may be made by joins, this part is from this bit on
pub data HoldsPart (new : Netlist) (part : Atom Net) : Atom Net → ℕ → Type 0 where
  itself : HoldsPart new part part 0
  above : (n : Net) (a b : Atom Net) (low : ℕ) → Contains new.assigns (assign n (Join a b)) → HoldsPart new part a low → HoldsPart new part (atom.Net n) (low + atom_width (net_width new) b)
  below : (n : Net) (a b : Atom Net) (low : ℕ) → Contains new.assigns (assign n (Join a b)) → HoldsPart new part b low → HoldsPart new part (atom.Net n) low

-- the assign is there as it was, or it reads the slot of its array
abbrev pub IsAssigned : Netlist → List Slot → Net → Right Net ℕ → Type 0
IsAssigned new slots n (Word x i) = (k : Slot) × (slice_get slots x ≡ Some k) × IsReadAt new k i n
IsAssigned new slots n r = Contains new.assigns (assign n r)

-- the update is there as it was, or the value is put as a part
abbrev pub IsUpdated : Netlist → List Slot → Update → Type 0
IsUpdated new slots (Set r a) = Contains new.updates (Set r a)
IsUpdated new slots (Put x i a) = (k : Slot) × (v : Atom Net) × (slice_get slots x ≡ Some k) × Contains new.updates (Put k.array i v) × HoldsPart new a v k.low

-- a word is read where an old assign reads one of its parts
abbrev pub IsReadOf : Netlist → List Slot → Right Net ℕ → Type 0
IsReadOf old slots (Word g i) = (x : ℕ) × (k : Slot) × (n : Net) × (slice_get slots x ≡ Some k) × (k.array ≡ g) × Contains old.assigns (assign n (Word x i))
IsReadOf old slots r = Unit {0}

-- and put where an old update puts one
abbrev pub IsPutOf : Netlist → List Slot → Update → Type 0
IsPutOf old slots (Set r a) = Unit {0}
IsPutOf old slots (Put g i v) = (x : ℕ) × (k : Slot) × (a : Atom Net) × (slice_get slots x ≡ Some k) × (k.array ≡ g) × Contains old.updates (Put x i a)

-- one of the updates puts this value at this index
abbrev pub IsPutAmong : List Update → (i a : Atom Net) → Type 0
IsPutAmong updates i a = (x : ℕ) × Contains updates (Put x i a)

-- the value is the net of this join
abbrev pub IsJoin : Netlist → (whole a b : Atom Net) → Type 0
IsJoin m whole a b = (n : Net) × (whole ≡ atom.Net n) × Contains m.assigns (assign n (Join a b))

-- The value is one that the old netlist puts at this index, or such a value joined with one that is joined so.
pub data IsJoinedOf (new old : Netlist) (i : Atom Net) : Atom Net → Type 0 where
  one : {a : Atom Net} → IsPutAmong old.updates i a → IsJoinedOf new old i a
  more : {whole : Atom Net} (a rest : Atom Net) → IsJoin new whole a rest → IsPutAmong old.updates i a → IsJoinedOf new old i rest → IsJoinedOf new old i whole

-- what is put is
abbrev pub PutsJoined : (new old : Netlist) → Update → Type 0
PutsJoined new old (Set r a) = Unit {0}
PutsJoined new old (Put x i a) = IsJoinedOf new old i a

-- the slot is inside an array of as many words
pub record HasSlot (new : Netlist) (k : Slot) (s : Shape) : Type 0 where
  pub width : k.width ≡ s.width
  pub there : Shape
  pub at : slice_get new.arrays k.array ≡ Some there
  pub depth : there.depth ≡ s.depth

-- The new netlist is the old one with its arrays packed. Each put is of a value that is joined of values that the old one puts.
pub record IsPacked (new old : Netlist) (slots : List Slot) : Type 0 where
  pub enable : new.enable ≡ old.enable
  pub inputs : new.inputs ≡ old.inputs
  pub outputs : new.outputs ≡ old.outputs
  pub regs : new.regs ≡ old.regs
  pub wires : take (length old.wires) new.wires ≡ old.wires
  pub places : AllZip (λ (k : Slot) (s : Shape). HasSlot new k s) slots old.arrays
  pub assigns : All (λ (a : Assign). IsAssigned new slots a.target a.right) old.assigns
  pub updates : All (IsUpdated new slots) old.updates
  pub reads : All (λ (a : Assign). IsReadOf old slots a.right) new.assigns
  pub puts : All (IsPutOf old slots) new.updates
  pub joined : All (PutsJoined new old) new.updates

-- in this array, slots one above the other fill the bits from 0 to this one
pub data IsFilledTo (slots : List Slot) (array : ℕ) : ℕ → Type 0 where
  empty : IsFilledTo slots array 0
  more : (x : ℕ) (k : Slot) → slice_get slots x ≡ Some k → k.array ≡ array → IsFilledTo slots array k.low → IsFilledTo slots array (k.low + k.width)

-- each array is filled up to its width: no bit of its words is unused
abbrev pub AreFilled : Netlist → List Slot → Type 0
AreFilled new slots = (g : ℕ) (s : Shape) → slice_get new.arrays g ≡ Some s → IsFilledTo slots g s.width

-- each array is read by one assign, and put by one update
pub record IsAccessedOnce (m : Netlist) (x : ℕ) : Type 0 where
  pub read : length (read_indices m x) ≡ 1
  pub put : length (put_indices m x) ≡ 1

abbrev pub AreAccessedOnce : Netlist → Type 0
AreAccessedOnce m = (x : ℕ) → x < length m.arrays → IsAccessedOnce m x

-- The new netlist is the old one with its arrays packed: no bit of a word is unused, and the array bits and the buffer bits are the same numbers.
pub record IsPacking (new old : Netlist) (slots : List Slot) : Type 0 where
  pub packed : IsPacked new old slots
  pub filled : AreFilled new slots
  pub arrays : array_bits new.arrays ≡ array_bits old.arrays
  pub bits : (k : ℕ) → IsBufferBits old k ↔ IsBufferBits new k
  -- where each old array is read by one assign and put by one update, so is each new one
  pub once : AreAccessedOnce old → AreAccessedOnce new

-- Used by private functions only.
-- if this part is joined of what the old netlist puts, so is the whole
abbrev pub IsRestOf : (new old : Netlist) → (i whole rest : Atom Net) → Type 0
IsRestOf new old i whole rest = IsJoinedOf new old i rest → IsJoinedOf new old i whole

-- 1 if this array was accessed
abbrev pub marked : List Bool → ℕ → ℕ
marked seen x = if slice_index_or seen x false then 1 else 0

-- which arrays were accessed, before and after these accesses, each of another array
pub record Marks (old new : List Bool) (accesses : List (ℕ × Atom Net)) : Type 0 where
  pub size : length new ≡ length old
  pub each : (x : ℕ) → x < length old → marked new x ≡ marked old x + length (indices_of x accesses)

-- what is in the inner value from its bit is in the outer one from its bit
abbrev pub IsInner : Netlist → (outer : Atom Net) → ℕ → (inner : Atom Net) → ℕ → Type 0
IsInner new outer low inner rest = (part : Atom Net) → HoldsPart new part inner rest → HoldsPart new part outer low

-- each array at bit 0 of the array of the same number, with its own width; x is the number of the first one
abbrev pub whole_slot : ℕ → Shape → Slot
whole_slot x s = record { array = x; low = 0; width = s.width }

abbrev pub whole_slots : ℕ → List Shape → List Slot
whole_slots x [] = []
whole_slots x (s ∷ arrays) = whole_slot x s ∷ whole_slots (suc x) arrays

-- each array is filled up to the number of bits that this list has for it
abbrev pub AreFilledTo : List Slot → List ℕ → Type 0
AreFilledTo slots reached = (g : ℕ) → IsFilledTo slots g (slice_index_or reached g 0)

abbrev pub widths_of : List Shape → List ℕ
widths_of arrays = map (λ (s : Shape). s.width) arrays

-- the first n old arrays have their slots
abbrev pub HaveSlotsTo : Netlist → List Slot → List Shape → ℕ → Type 0
HaveSlotsTo new slots arrays n = (x : ℕ) (k : Slot) (s : Shape) → x < n → slice_get slots x ≡ Some k → slice_get arrays x ≡ Some s → HasSlot new k s
