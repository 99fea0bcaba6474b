-- Rows that keep the equations of a module over the clocks of a batch.
use Rattle.std.specs.Prelude.{◌≡◌, ℕ, zero, suc, ◌<◌, List, [], length, slice_index, slice_index_or, slice_get, slice_set, Some}
use Rattle.wiring.specs.declared.right.Atom.{Atom}
use Rattle.wiring.specs.declared.netlist.Net.{Net}
use Rattle.wiring.specs.declared.netlist.Net.TheVariants.{Reg}
use Rattle.wiring.specs.Rights.{atom_value}
use Rattle.wiring.specs.Netlist.{Netlist, IsDeclared}
use Rattle.wiring.specs.Snapshot.{Contents, Snapshot, net_value}
use Rattle.wiring.specs.Clock.{Clock, given}
use Rattle.wiring.specs.Runs.{Runs}
use Rattle.cycle_sim.specs.Slots.{slot}
use Rattle.lane_rows.specs.Values.{value_at}
use Rattle.batch_rows.specs.Code.{AllHold}
use Rattle.batch_rows.specs.declared.module_code.WordRead.{WordRead}
use Rattle.batch_rows.specs.declared.module_code.WordPut.{WordPut}
use Rattle.batch_rows.specs.declared.module_code.BatchCode.{BatchCode}

-- the value of an atom at a clock
abbrev pub atom_at : List (List ℕ) → ℕ → Atom ℕ → ℕ
atom_at rows t a = atom_value (value_at rows t) a

-- the words of an array before a clock, one put a clock
abbrev pub words_put : List (List ℕ) → WordPut → List ℕ → ℕ → List ℕ
words_put rows p words zero = words
words_put rows p words (suc t) = slice_set (words_put rows p words t) (atom_at rows t p.index) (atom_at rows t p.value)

-- over this many clocks the indexes are inside an array, and its target's row is what is read before each edge
pub record KeepsArray (rows : List (List ℕ)) (count : ℕ) (words : List ℕ) (r : WordRead) (p : WordPut) : Type 0 where
  pub read_inside : (t : ℕ) → t < count → atom_at rows t r.index < length words
  pub put_inside : (t : ℕ) → t < count → atom_at rows t p.index < length words
  pub row : (t : ℕ) → t < count → value_at rows t r.target ≡ slice_index (words_put rows p words t) (atom_at rows t r.index)

-- a register's row begins with its contents, and is its next value's row one clock later
pub record KeepsRegister (rows : List (List ℕ)) (count stored reg : ℕ) (next : Atom ℕ) : Type 0 where
  pub first : value_at rows 0 reg ≡ stored
  pub later : (t : ℕ) → t < count → value_at rows (suc t) reg ≡ atom_at rows t next

-- rows of which this many places are a batch's: they keep every equation of the code, from these contents
pub record KeepEquations (m : Netlist) (c : BatchCode) (clocks : List Clock) (from : Contents) (rows : List (List ℕ)) : Type 0 where
  pub inputs : (t i : ℕ) (k : Clock) → slice_get clocks t ≡ Some k → i < length m.inputs → value_at rows t i ≡ slice_index (given m k) i
  pub instructions : AllHold c.widths.items (length clocks) rows (length c.instructions.items) c.instructions.items
  pub registers : (r : ℕ) (next : Atom ℕ) → slice_get c.nexts.items r ≡ Some next → KeepsRegister rows (length clocks) (slice_index from.regs r) (slot m (Reg r)) next
  pub arrays : (x : ℕ) (r : WordRead) (p : WordPut) → slice_get c.reads.items x ≡ Some r → slice_get c.puts.items x ≡ Some p → KeepsArray rows (length clocks) (slice_index_or from.arrays x []) r p

-- the contents after this many clocks, as rows have them
pub record AreLeft (m : Netlist) (c : BatchCode) (rows : List (List ℕ)) (count : ℕ) (from to : Contents) : Type 0 where
  pub reg_count : length to.regs ≡ length m.regs
  pub regs : (r : ℕ) → r < length m.regs → slice_index to.regs r ≡ value_at rows count (slot m (Reg r))
  pub array_count : length to.arrays ≡ length m.arrays
  pub arrays : (x : ℕ) (p : WordPut) → slice_get c.puts.items x ≡ Some p → slice_index_or to.arrays x [] ≡ words_put rows p (slice_index_or from.arrays x []) count

-- the clocks took place, and at each the nets have the values of their slots
pub record RowsRan (m : Netlist) (clocks : List Clock) (from to : Contents) (rows : List (List ℕ)) : Type 0 where
  pub shots : List Snapshot
  pub run : Runs m from clocks shots to
  pub count : length shots ≡ length clocks
  pub outputs : (t : ℕ) (s : Snapshot) → slice_get shots t ≡ Some s → length s.outputs ≡ length m.outputs
  pub nets : (t : ℕ) (s : Snapshot) (n : Net) → slice_get shots t ≡ Some s → IsDeclared m n → net_value s n ≡ value_at rows t (slot m n)
