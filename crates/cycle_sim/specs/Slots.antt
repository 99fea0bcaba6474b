-- The values of a netlist in one list.
use Rattle.std.specs.Prelude.{ℕ, ◌+◌, ◌≤◌, List, [], ◌++◌, length, slice_index, slice_index_or, slice_set, map, Vec}
use Rattle.std.specs.declared.alloc.Global.{Global}
use Rattle.wiring.specs.declared.right.Right.{Right}
use Rattle.wiring.specs.declared.right.Right.TheVariants.{Copy, Not, Binary, Choose, Join, Repeat, Bit, Slice, Word}
use Rattle.wiring.specs.declared.right.Atom.{Atom}
use Rattle.wiring.specs.declared.right.Atom.TheVariants as atom
use Rattle.wiring.specs.declared.netlist.Net.{Net}
use Rattle.wiring.specs.declared.netlist.Net.TheVariants.{Input, Output, Wire, Reg}
use Rattle.wiring.specs.Netlist.{Netlist}
use Rattle.wiring.specs.Snapshot.{Snapshot}
use Rattle.wiring.specs.Rights.{atom_width}

-- inputs, outputs, wires and registers in one list
abbrev pub slot : Netlist → Net → ℕ
slot m (Input i) = i
slot m (Output i) = length m.inputs + i
slot m (Wire i) = length m.inputs + length m.outputs + i
slot m (Reg i) = length m.inputs + length m.outputs + length m.wires + i

abbrev pub all_values : Snapshot → List ℕ
all_values s = s.inputs ++ s.outputs ++ s.wires ++ s.contents.regs

abbrev pub all_widths : Netlist → List ℕ
all_widths m = m.inputs ++ m.outputs ++ m.wires ++ m.regs

-- a right side over other names of its nets
abbrev pub rename_atom : {N M : Type 0} → (N → M) → Atom N → Atom M
rename_atom f (atom.Net n) = atom.Net (f n)
rename_atom f (atom.Constant c) = atom.Constant c

abbrev pub rename : {N M A : Type 0} → (N → M) → Right N A → Right M A
rename f (Copy a) = Copy (rename_atom f a)
rename f (Not a) = Not (rename_atom f a)
rename f (Binary o a b) = Binary o (rename_atom f a) (rename_atom f b)
rename f (Choose c a b) = Choose (rename_atom f c) (rename_atom f a) (rename_atom f b)
rename f (Join a b) = Join (rename_atom f a) (rename_atom f b)
rename f (Repeat n a) = Repeat n (rename_atom f a)
rename f (Bit v k) = Bit (f v) k
rename f (Slice v m l) = Slice (f v) m l
rename f (Word m i) = Word m (rename_atom f i)

-- 0 past an array's end
abbrev pub word_at : List (List ℕ) → ℕ → ℕ → ℕ
word_at arrays a i = slice_index (slice_index_or arrays a []) i

-- the words of vectors
abbrev pub words_of : List (Vec ℕ Global) → List (List ℕ)
words_of arrays = map (λ (v : Vec ℕ Global). v.items) arrays

-- the operands whose widths matter have at most 64 bits
abbrev pub IsNarrow : {N A : Type 0} → (N → ℕ) → Right N A → Type 0
IsNarrow width (Copy a) = Unit {0}
IsNarrow width (Not a) = atom_width width a ≤ 64
IsNarrow width (Binary o a b) = atom_width width a ≤ 64
IsNarrow width (Choose c a b) = Unit {0}
IsNarrow width (Join a b) = atom_width width b ≤ 64
IsNarrow width (Repeat n a) = atom_width width a ≤ 64
IsNarrow width (Bit v k) = width v ≤ 64
IsNarrow width (Slice v m l) = width v ≤ 64
IsNarrow width (Word m i) = Unit {0}

abbrev pub depth_at : List (List ℕ) → ℕ → ℕ
depth_at arrays a = length (slice_index_or arrays a [])

abbrev pub put_at : List (List ℕ) → ℕ → ℕ → ℕ → List (List ℕ)
put_at arrays a i x = slice_set arrays a (slice_set (slice_index_or arrays a []) i x)
