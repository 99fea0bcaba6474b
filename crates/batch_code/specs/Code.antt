-- A module as code over the slots of its nets.
use Rattle.std.specs.Prelude.{◌≡◌, ℕ, ◌+◌, ◌<◌, ◌≤◌, length, slice_get, Some, None, All, Contains}
use Rattle.wiring.specs.declared.right.Atom.{Atom}
use Rattle.wiring.specs.declared.right.Atom.TheVariants as atom
use Rattle.wiring.specs.declared.right.Right.TheVariants.{Word}
use Rattle.wiring.specs.declared.netlist.Net.{Net}
use Rattle.wiring.specs.declared.netlist.Assign.{Assign}
use Rattle.wiring.specs.declared.netlist.Update.TheVariants.{Set, Put}
use Rattle.wiring.specs.Rights.{array_of}
use Rattle.wiring.specs.Netlist.{Netlist}
use Rattle.cycle_sim.specs.Slots.{slot, rename, rename_atom, all_widths}
use Rattle.batch_rows.specs.declared.code.Instruction.{Instruction}
use Rattle.batch_rows.specs.Code.{AreSound, IsOrdered, IsNoTarget}
use Rattle.batch_rows.specs.declared.module_code.WordRead.{WordRead}
use Rattle.batch_rows.specs.declared.module_code.WordPut.{WordPut}
use Rattle.batch_rows.specs.declared.module_code.BatchCode.{BatchCode}

-- an atom is a constant, or one of this many slots
abbrev pub IsWithin : ℕ → Atom ℕ → Type 0
IsWithin slots (atom.Net n) = n < slots
IsWithin slots (atom.Constant c) = Unit {0}

abbrev pub ReadIsWithin : ℕ → WordRead → Type 0
ReadIsWithin slots r = (r.target < slots) × IsWithin slots r.index

abbrev pub PutIsWithin : ℕ → WordPut → Type 0
PutIsWithin slots p = IsWithin slots p.index × IsWithin slots p.value

-- the instruction of an assign
abbrev pub instruction : Netlist → Assign → Instruction
instruction m a = record { target = slot m a.target; right = rename (slot m) a.right }

abbrev pub read_of : Netlist → Net → Atom Net → WordRead
read_of m target i = record { target = slot m target; index = rename_atom (slot m) i }

abbrev pub put_of : Netlist → Atom Net → Atom Net → WordPut
put_of m i a = record { index = rename_atom (slot m) i; value = rename_atom (slot m) a }

-- an instruction is that of an assign that reads no array
abbrev pub IsPlain : Netlist → Instruction → Type 0
IsPlain m i = (k : ℕ) × (a : Assign) × (slice_get m.assigns k ≡ Some a) × (array_of a.right ≡ None) × (i ≡ instruction m a)

-- an assign reads an array
abbrev pub IsRead : Netlist → ℕ → Type 0
IsRead m x = (k : ℕ) × (n : Net) × (i : Atom Net) × (slice_get m.assigns k ≡ Some (record { target = n; right = Word x i }))

-- each assign and each update of a netlist has its place in the code, and nothing else has one
pub record IsCodeOf (m : Netlist) (c : BatchCode) : Type 0 where
  pub assigns : (k : ℕ) (a : Assign) → slice_get m.assigns k ≡ Some a → array_of a.right ≡ None → Contains c.instructions.items (instruction m a)
  pub reads : (k : ℕ) (n : Net) (x : ℕ) (i : Atom Net) → slice_get m.assigns k ≡ Some (record { target = n; right = Word x i }) → slice_get c.reads.items x ≡ Some (read_of m n i)
  pub puts : (k x : ℕ) (i a : Atom Net) → slice_get m.updates k ≡ Some (Put x i a) → slice_get c.puts.items x ≡ Some (put_of m i a)
  pub nexts : (k r : ℕ) (a : Atom Net) → slice_get m.updates k ≡ Some (Set r a) → slice_get c.nexts.items r ≡ Some (rename_atom (slot m) a)
  pub plain : All (IsPlain m) c.instructions.items
  pub some_read : (x : ℕ) → x < length m.arrays → IsRead m x

-- where the slots of each sort of net begin
pub record HasSlots (m : Netlist) (c : BatchCode) : Type 0 where
  pub widths : c.widths.items ≡ all_widths m
  pub first_output : c.first_output ≡ length m.inputs
  pub first_reg : c.first_reg ≡ length m.inputs + length m.outputs + length m.wires
  pub all : length c.widths.items ≡ c.first_reg + length m.regs

-- code that can be run over rows: it writes no input and no register, and names slots that there are
pub record IsRunnable (m : Netlist) (c : BatchCode) : Type 0 where
  pub sound : AreSound c.widths.items c.instructions.items
  pub ordered : IsOrdered c.instructions.items
  pub inputs : (n : ℕ) → n < c.first_output → IsNoTarget c.instructions.items n
  pub regs : (n : ℕ) → c.first_reg ≤ n → IsNoTarget c.instructions.items n
  pub read_count : length c.reads.items ≡ length m.arrays
  pub put_count : length c.puts.items ≡ length m.arrays
  pub next_count : length c.nexts.items ≡ length m.regs
  pub reads : All (ReadIsWithin (length c.widths.items)) c.reads.items
  pub puts : All (PutIsWithin (length c.widths.items)) c.puts.items
  pub nexts : All (IsWithin (length c.widths.items)) c.nexts.items

-- the code of a netlist
pub record IsBatchCode (m : Netlist) (c : BatchCode) : Type 0 where
  pub slots : HasSlots m c
  pub code : IsCodeOf m c
  pub runnable : IsRunnable m c
