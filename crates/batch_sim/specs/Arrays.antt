-- The arrays over the clocks of a batch.
use Rattle.std.specs.Prelude.{◌≡◌, ◌≢◌, ℕ, ◌<◌, ◌≤◌, Bool, IsTrue, IsFalse, List, [], length, slice_index, slice_index_or, slice_get, Option, Some, IfSome, IfNone, Vec}
use Rattle.std.specs.declared.alloc.Global.{Global}
use Rattle.cycle_sim.specs.Slots.{words_of}
use Rattle.wiring.specs.declared.right.Atom.{Atom}
use Rattle.wiring.specs.declared.right.Atom.TheVariants as atom
use Rattle.batch_rows.specs.Rights.{HasRow, IsAtomRow}
use Rattle.lane_rows.specs.Values.{numbers_in, items_of}
use Rattle.lane_rows.specs.Words.{words_after, IsReadUpTo, AreInside}
use Rattle.batch_rows.specs.declared.module_code.WordRead.{WordRead}
use Rattle.batch_sim.specs.declared.judge.arrays.ArrayAccess.{ArrayAccess}
use Rattle.batch_sim.specs.declared.judge.arrays.Accesses.{Accesses}
use Rattle.batch_sim.specs.declared.judge.arrays.AccessNumbers.{AccessNumbers}
use Rattle.batch_sim.specs.declared.judge.arrays.AccessSlots.{AccessSlots}
use Rattle.batch_sim.specs.declared.judge.arrays.ArrayRoom.{ArrayRoom}
use Rattle.batch_sim.specs.declared.judge.arrays.PassRoom.{PassRoom}
use Rattle.batch_sim.specs.declared.judge.arrays.Undo.{Undo}
use Rattle.batch_rows.specs.declared.module_code.WordPut.{WordPut}
use Rattle.batch_code.specs.Rows.{atom_at, words_put, KeepsArray}

-- the words of one of some arrays
abbrev pub words_at : List (Vec ℕ Global) → ℕ → List ℕ
words_at arrays x = slice_index_or (words_of arrays) x []

-- what each write of this many clocks took away; of a single word only what the first one did, which is all its contents
abbrev pub IsLost : ℕ → (old lost index value : List ℕ) → Type 0
IsLost count old lost index value =
    (t : ℕ) → t < count → (length old ≡ 1 → t ≡ 0) → slice_index lost t ≡ slice_index (words_after old index value t) (slice_index index t)

-- an array was read and written over this many clocks, and what was read is the target's row
pub record IsPassed (old new lost read index value target : List ℕ) (count : ℕ) : Type 0 where
  pub reads : AreInside count read (length old)
  pub writes : AreInside count index (length old)
  pub to : List ℕ
  pub row : IsReadUpTo count old to read index value
  pub same : (t : ℕ) → t < count → slice_index target t ≡ slice_index to t
  pub words : new ≡ words_after old index value count
  pub lost_row : IsLost count old lost index value

-- An array that was tried over rows of its indexes, values and targets.
pub record TriesArray (result : Bool) (old new taken : List ℕ) (clocks : ℕ) (reads indexes values targets : List ℕ) : Type 0 where
  -- true: it was read and written at each clock
  pub passed : IsTrue result → IsPassed old new taken reads indexes values targets clocks
  -- false: its words are as before
  pub back : IsFalse result → new ≡ old

-- `TriesArray` over the numbers of its rows
abbrev pub TriesNumbers : (result : Bool) → (old new taken : List ℕ) → (clocks : ℕ) → AccessNumbers → Type 0
TriesNumbers result old new taken clocks a = TriesArray result old new taken clocks (numbers_in a.read) (numbers_in a.index) (numbers_in a.value) (numbers_in a.target)

-- each put of this many clocks is inside
abbrev pub PutsInside : List (List ℕ) → WordPut → ℕ → ℕ → Type 0
PutsInside rows p count depth = (t : ℕ) → t < count → atom_at rows t p.index < depth

-- what each put took away; of a single word only what the first one did, which is all its contents
abbrev pub WasLost : List (List ℕ) → WordPut → List ℕ → List ℕ → ℕ → Type 0
WasLost rows p words lost count =
    (t : ℕ) → t < count → (length words ≡ 1 → t ≡ 0) → slice_index lost t ≡ slice_index (words_put rows p words t) (atom_at rows t p.index)

-- the rows of an array's indexes, value and target have this many clocks
pub record HaveAccessRows (rows : List (List ℕ)) (count : ℕ) (r : WordRead) (p : WordPut) : Type 0 where
  pub target : r.target < length rows
  pub long : count ≤ length (slice_index_or rows r.target [])
  pub read : HasRow rows count r.index
  pub index : HasRow rows count p.index
  pub value : HasRow rows count p.value

-- An array that was tried over the rows of its read and its put.
pub record PassesArray (made : List (List ℕ)) (r : WordRead) (p : WordPut) (count : ℕ) (result : Bool) (old new taken : List ℕ) : Type 0 where
  -- true: its equations are kept
  pub kept : IsTrue result → KeepsArray made count old r p
  -- and its words are those after these clocks
  pub words : IsTrue result → new ≡ words_put made p old count
  -- and what each put took away is kept
  pub lost : IsTrue result → WasLost made p old taken count
  -- false: its words are as before
  pub back : IsFalse result → new ≡ old

-- `PassesArray` of an access
abbrev pub PassesAccess : List (List ℕ) → ArrayAccess → Bool → (old new taken : List ℕ) → Type 0
PassesAccess made a result old new taken = PassesArray made a.read.now a.put.now a.count result old new taken

-- the rows of an access have its clocks
abbrev pub HaveRowsOf : List (List ℕ) → ArrayAccess → Type 0
HaveRowsOf made a = HaveAccessRows made a.count a.read.now a.put.now

-- all arrays but one are as before
abbrev pub OthersStay : (array : ℕ) → (old new : List (List ℕ)) → Type 0
OthersStay array old new = (x : ℕ) → x ≢ array → slice_index_or new x [] ≡ slice_index_or old x []

-- the first n arrays have their words after the batch, and the others those before it
pub record ArePut (rows : List (List ℕ)) (puts : List WordPut) (count : ℕ) (before now : List (List ℕ)) (done : ℕ) : Type 0 where
  pub same : length now ≡ length before
  pub put : (x : ℕ) (p : WordPut) → x < done → slice_get puts x ≡ Some p →
      slice_index_or now x [] ≡ words_put rows p (slice_index_or before x []) count
  pub left : (x : ℕ) → done ≤ x → slice_index_or now x [] ≡ slice_index_or before x []

-- what each put of the first n arrays took away is kept
abbrev pub AreLost : List (List ℕ) → List WordPut → ℕ → List (List ℕ) → List (List ℕ) → ℕ → Type 0
AreLost rows puts count before lost done = (x : ℕ) (p : WordPut) → x < done → slice_get puts x ≡ Some p →
    PutsInside rows p count (length (slice_index_or before x [])) × WasLost rows p (slice_index_or before x []) (slice_index_or lost x []) count

-- the equations of the first n arrays are kept
abbrev pub AreKept : List (List ℕ) → List WordRead → List WordPut → ℕ → List (List ℕ) → ℕ → Type 0
AreKept rows reads puts count before done = (x : ℕ) (r : WordRead) (p : WordPut) → x < done →
    slice_get reads x ≡ Some r → slice_get puts x ≡ Some p → KeepsArray rows count (slice_index_or before x []) r p

-- room for this many clocks
pub record IsArrayRoom (r : ArrayRoom) (count : ℕ) : Type 0 where
  pub read : count ≤ length r.read.items
  pub index : count ≤ length r.index.items
  pub value : count ≤ length r.value.items
  pub target : count ≤ length r.target.items

-- and for what is read in them
pub record IsPassRoom (r : PassRoom) (count : ℕ) : Type 0 where
  pub spares : IsArrayRoom r.spares count
  pub to : count ≤ length r.to.items

-- The rows over which an array is judged have this many clocks.
pub record HaveClocks {I V : Type 0} (reads indexes : List I) (values targets : List V) (count : ℕ) : Type 0 where
  -- that of the indexes of its reads
  pub read : length reads ≡ count
  -- that of the indexes of its puts
  pub index : length indexes ≡ count
  -- that of what is put
  pub value : length values ≡ count
  -- that of what is read
  pub target : length targets ≡ count

-- An array can be judged over this many clocks.
pub record CanPass (made : List (List ℕ)) (spare : ArrayRoom) (r : WordRead) (p : WordPut) (count : ℕ) : Type 0 where
  -- the rows of its indexes, its value and its target have them
  pub rows : HaveAccessRows made count r p
  -- and so have the spare rows
  pub room : IsArrayRoom spare count

-- the numbers over which an array is judged are of this many clocks
abbrev pub HaveCount : AccessNumbers → ℕ → Type 0
HaveCount a count = HaveClocks (numbers_in a.read) (numbers_in a.index) (numbers_in a.value) (numbers_in a.target) count

-- they are those of its indexes, its value and its target
pub record AreAccessNumbers (rows : List (List ℕ)) (count : ℕ) (r : WordRead) (p : WordPut) (a : AccessNumbers) : Type 0 where
  pub read : IsAtomRow rows r.index count (numbers_in a.read)
  pub index : IsAtomRow rows p.index count (numbers_in a.index)
  pub value : IsAtomRow rows p.value count (numbers_in a.value)
  pub target : IsAtomRow rows (atom.Net r.target) count (numbers_in a.target)

-- an atom is this slot, or a spare row is its row
abbrev pub IsNoted : List (List ℕ) → ℕ → Atom ℕ → List ℕ → Option ℕ → Type 0
IsNoted rows count a spare own = IfSome own (λ n. a ≡ atom.Net n) × IfNone own (IsAtomRow rows a count spare)

-- so it is with the atoms of an array
pub record AreNoted (rows : List (List ℕ)) (count : ℕ) (r : WordRead) (p : WordPut) (room : ArrayRoom) (s : AccessSlots) : Type 0 where
  pub read : IsNoted rows count r.index room.read.items s.read
  pub index : IsNoted rows count p.index room.index.items s.index
  pub value : IsNoted rows count p.value room.value.items s.value
  pub target : IsNoted rows count (atom.Net r.target) room.target.items s.target

-- the rows of all arrays' indexes, values and targets have this many clocks
abbrev pub AreAccessRows : List (List ℕ) → ℕ → List WordRead → List WordPut → Type 0
AreAccessRows rows count reads puts =
    (x : ℕ) (r : WordRead) (p : WordPut) → slice_get reads x ≡ Some r → slice_get puts x ≡ Some p → HaveAccessRows rows count r p

-- each of this many lists has room for this many clocks
abbrev pub HaveLong : List (List ℕ) → ℕ → Type 0
HaveLong lists count = (x : ℕ) → x < length lists → count ≤ length (slice_index_or lists x [])

-- the puts of the first n arrays are inside
abbrev pub AreInsideAll : List (List ℕ) → List WordPut → ℕ → List (List ℕ) → ℕ → Type 0
AreInsideAll rows puts count arrays done =
    (x : ℕ) (p : WordPut) → x < done → slice_get puts x ≡ Some p → PutsInside rows p count (length (slice_index_or arrays x []))

-- the rows of all puts' indexes and values have this many clocks
abbrev pub HavePutRows : List (List ℕ) → ℕ → List WordPut → Type 0
HavePutRows rows count puts = (x : ℕ) (p : WordPut) → slice_get puts x ≡ Some p → HasRow rows count p.index × HasRow rows count p.value

-- what this many clocks left of some words is these words again, with what each put took away
abbrev pub TakesBack : List (List ℕ) → WordPut → ℕ → (lost old new : List ℕ) → Type 0
TakesBack rows p count lost old new = (before : List ℕ) →
    old ≡ words_put rows p before count → length old ≡ length before → WasLost rows p before lost count → new ≡ before

-- the same of the first n arrays
abbrev pub AllTakenBack : List (List ℕ) → List WordPut → ℕ → (lost old new : List (List ℕ)) → ℕ → Type 0
AllTakenBack rows puts count lost old new done = (before : List (List ℕ)) →
    ArePut rows puts count before old done → AreLost rows puts count before lost done → new ≡ before

-- Room in which all arrays are judged over this many clocks.
pub record HasSpareRows (spare : PassRoom) (taken : List (Vec ℕ Global)) (count : ℕ) : Type 0 where
  -- spare rows
  pub room : IsPassRoom spare count
  -- and a row for what the puts of each array take away
  pub lost : HaveLong (items_of taken) count

-- All arrays can be judged over these accesses.
pub record CanPassAll (made : List (List ℕ)) (all : Accesses) (spare : PassRoom) (taken arrays : List (Vec ℕ Global)) : Type 0 where
  -- each array has one read
  pub reads : length all.reads.now ≡ length arrays
  -- and one put
  pub puts : length all.puts.now ≡ length arrays
  -- and a place for what its puts take away
  pub losts : length taken ≡ length arrays
  -- the rows of their indexes, values and targets have these clocks
  pub rows : AreAccessRows made all.count all.reads.now all.puts.now
  -- spare rows have them
  pub room : IsPassRoom spare all.count
  -- and so have the rows for what is taken away
  pub lost : HaveLong (items_of taken) all.count

-- All arrays, after they were tried.
pub record PassesAll (made : List (List ℕ)) (all : Accesses) (result : Bool) (old new : List (Vec ℕ Global)) : Type 0 where
  -- true: the equations of each are kept
  pub kept : IsTrue result → AreKept made all.reads.now all.puts.now all.count (words_of old) (length old)
  -- and each has its words after these clocks
  pub put : IsTrue result → ArePut made all.puts.now all.count (words_of old) (words_of new) (length old)
  -- false: all words are as before
  pub back : IsFalse result → words_of new ≡ words_of old

-- What an array of this many words was given can be taken back.
pub record CanUndo (made : List (List ℕ)) (spare : ArrayRoom) (u : Undo) (depth : ℕ) : Type 0 where
  -- the rows of its indexes have these clocks
  pub index : HasRow made u.count u.put.now.index
  -- and those of its values
  pub value : HasRow made u.count u.put.now.value
  -- and the spare rows
  pub room : IsArrayRoom spare u.count
  -- and what each put took away
  pub lost : u.count ≤ length u.lost.now
  -- each put was inside
  pub inside : PutsInside made u.put.now u.count depth

-- What an array was given, taken back.
pub record IsUndone (made : List (List ℕ)) (spare : ArrayRoom) (u : Undo) (old new : List ℕ) : Type 0 where
  -- the spare rows have room as before
  pub room : IsArrayRoom spare u.count
  -- it has as many words as before
  pub long : length new ≡ length old
  -- and these are what they were before its puts
  pub back : TakesBack made u.put.now u.count u.lost.now old new

-- What the first n arrays were given can be taken back.
pub record CanUndoAll (made : List (List ℕ)) (spare : ArrayRoom) (all : Accesses) (taken arrays : List (Vec ℕ Global)) (n : ℕ) : Type 0 where
  -- there are n arrays
  pub done : n ≤ length arrays
  -- and n puts
  pub puts : n ≤ length all.puts.now
  -- and n rows of what was taken away
  pub lost : n ≤ length taken
  -- the rows of their indexes and values have these clocks
  pub atoms : HavePutRows made all.count all.puts.now
  -- and the spare rows
  pub room : IsArrayRoom spare all.count
  -- and what was taken away
  pub long : HaveLong (items_of taken) all.count
  -- each put was inside
  pub inside : AreInsideAll made all.puts.now all.count (words_of arrays) n
