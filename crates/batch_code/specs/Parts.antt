-- The parts of a module's code, as they grow.
use Rattle.std.specs.Prelude.{◌≡◌, ℕ, ◌<◌, Bool, true, false, List, length, slice_get, slice_index_or, Some, None, All, Contains}
use Rattle.wiring.specs.declared.right.Atom.{Atom}
use Rattle.wiring.specs.declared.right.Right.TheVariants.{Word}
use Rattle.wiring.specs.declared.netlist.Net.{Net}
use Rattle.wiring.specs.declared.netlist.Assign.{Assign}
use Rattle.wiring.specs.declared.netlist.Update.TheVariants.{Set, Put}
use Rattle.wiring.specs.Rights.{array_of}
use Rattle.wiring.specs.Netlist.{Netlist}
use Rattle.cycle_sim.specs.Slots.{slot, rename_atom, all_widths}
use Rattle.batch_rows.specs.declared.code.Instruction.{Instruction}
use Rattle.batch_rows.specs.declared.module_code.WordRead.{WordRead}
use Rattle.batch_rows.specs.declared.module_code.WordPut.{WordPut}
use Rattle.batch_code.specs.Code.{IsWithin, ReadIsWithin, PutIsWithin, IsPlain, IsRead, instruction, read_of, put_of}

-- an instruction is that of the assign of this number
abbrev pub IsInstructionOf : Netlist → ℕ → Instruction → Type 0
IsInstructionOf m k i = (a : Assign) × (slice_get m.assigns k ≡ Some a) × (i ≡ instruction m a)

-- instructions of assigns that read no array, with a mark for each assign that has one
pub record AreInstructions (m : Netlist) (code : List Instruction) (marks : List Bool) : Type 0 where
  pub count : length marks ≡ length m.assigns
  pub plain : All (IsPlain m) code
  pub marked : (k : ℕ) (a : Assign) → slice_get m.assigns k ≡ Some a → slice_index_or marks k false ≡ true → Contains code (instruction m a)

-- all of them
pub record HasInstructions (m : Netlist) (code : List Instruction) : Type 0 where
  pub plain : All (IsPlain m) code
  pub all : (k : ℕ) (a : Assign) → slice_get m.assigns k ≡ Some a → array_of a.right ≡ None → Contains code (instruction m a)

-- a place for each register, and those of the first n updates in theirs
pub record AreNexts (m : Netlist) (count : ℕ) (nexts : List (Atom ℕ)) : Type 0 where
  pub places : length nexts ≡ length m.regs
  pub within : All (IsWithin (length (all_widths m))) nexts
  pub each : (k r : ℕ) (a : Atom Net) → k < count → slice_get m.updates k ≡ Some (Set r a) → slice_get nexts r ≡ Some (rename_atom (slot m) a)

-- a place for each array, and the puts of the first n updates in theirs
pub record ArePuts (m : Netlist) (count : ℕ) (puts : List WordPut) : Type 0 where
  pub places : length puts ≡ length m.arrays
  pub within : All (PutIsWithin (length (all_widths m))) puts
  pub each : (k x : ℕ) (i a : Atom Net) → k < count → slice_get m.updates k ≡ Some (Put x i a) → slice_get puts x ≡ Some (put_of m i a)

-- the reads of arrays by the first n assigns, with a mark for each array that has one
pub record AreReads (m : Netlist) (count : ℕ) (reads : List WordRead) (marks : List Bool) : Type 0 where
  pub places : length reads ≡ length m.arrays
  pub mark_count : length marks ≡ length m.arrays
  pub within : All (ReadIsWithin (length (all_widths m))) reads
  pub each : (k : ℕ) (n : Net) (x : ℕ) (i : Atom Net) → k < count → slice_get m.assigns k ≡ Some (record { target = n; right = Word x i }) → slice_get reads x ≡ Some (read_of m n i)
  pub marked : (k : ℕ) (n : Net) (x : ℕ) (i : Atom Net) → k < count → slice_get m.assigns k ≡ Some (record { target = n; right = Word x i }) → slice_index_or marks x false ≡ true

-- a marked array is read by an assign
abbrev pub AreReadWhereMarked : Netlist → List Bool → Type 0
AreReadWhereMarked m marks = (x : ℕ) → slice_index_or marks x false ≡ true → IsRead m x

-- all of them, one of each array
pub record HasReads (m : Netlist) (reads : List WordRead) : Type 0 where
  pub places : length reads ≡ length m.arrays
  pub within : All (ReadIsWithin (length (all_widths m))) reads
  pub each : (k : ℕ) (n : Net) (x : ℕ) (i : Atom Net) → slice_get m.assigns k ≡ Some (record { target = n; right = Word x i }) → slice_get reads x ≡ Some (read_of m n i)
  pub some : (x : ℕ) → x < length m.arrays → IsRead m x
