-- What is known of a module that is clocked over rows.
use Rattle.std.specs.Prelude.{◌≡◌, ℕ, ◌+◌, ◌<◌, ◌≤◌, Bool, IsTrue, IsFalse, Option, IfSome, List, [], length, slice_index, slice_index_or, Vec}
use Rattle.std.specs.declared.alloc.Global.{Global}
use Rattle.wiring.specs.Netlist.{Netlist}
use Rattle.wiring.specs.Rules.{KeepsRules}
use Rattle.wiring.specs.Snapshot.{FitsContents}
use Rattle.batch_sim.specs.Stored.{contents_in}
use Rattle.batch_code.specs.Code.{IsBatchCode}
use Rattle.batch_guess.specs.declared.engine.Engine.{Engine}
use Rattle.batch_sim.specs.Called.{din_count}
use Rattle.cycle_sim.specs.Slots.{words_of}
use Rattle.lane_rows.specs.Values.{value_at, values_of, items_of}
use Rattle.batch_code.specs.Rows.{RowsRan}
use Rattle.cycle_sim.specs.declared.ports.Out.{Out}
use Rattle.batch_sim.specs.Pieces.{clocks_in, IsPieceOf, HasDins, PieceRan}
use Rattle.batch_guess.specs.declared.stored.Stored.{Stored}
use Rattle.batch_sim.specs.declared.rows.Rows.{Rows}
use Rattle.batch_guess.specs.declared.inputs.Piece.{Piece}
use Rattle.batch_sim.specs.declared.judge.arrays.PassRoom.{PassRoom}
use Rattle.batch_sim.specs.Arrays.{AreAccessRows, ArePut, AreKept, IsPassRoom, HaveLong}
use Rattle.batch_sim.specs.Checked.{HaveAtomRows, AreInputRows, AreRegisterRows, inputs_with}

-- an engine is a netlist's
pub record IsEngineOf (m : Netlist) (e : Engine) : Type 0 where
  pub code : IsBatchCode m e.code
  pub enable : e.has_enable ≡ m.enable
  pub ports : e.ports ≡ din_count m

-- the rows of a code's slots have this many clocks and one place more
pub record AreWide (e : Engine) (rows : List (List ℕ)) (count : ℕ) : Type 0 where
  pub inputs : e.code.first_output ≡ inputs_with e.has_enable e.ports
  pub slots : e.code.first_output ≤ length rows
  pub long : (n : ℕ) → n < length rows → count < length (slice_index_or rows n [])
  pub regs : e.code.first_reg + length e.code.nexts.items ≤ length rows
  pub nexts : HaveAtomRows rows count e.code.nexts.items
  pub arrays : AreAccessRows rows count e.code.reads.items e.code.puts.items

-- rows for a netlist, of one place more than a piece has clocks
pub record AreRowsOf (m : Netlist) (r : Rows) : Type 0 where
  pub engine : IsEngineOf m r.guess.engine
  pub some : 1 ≤ r.size
  pub wide : r.size < r.guess.long

-- the rows keep the equations of the code over the clocks of a piece, and the contents are what they were and what the rows leave
pub record IsJudged (e : Engine) (rows : List (List ℕ)) (p : Piece) (old new : Stored) : Type 0 where
  pub given : AreInputRows e.has_enable e.ports p e.code.first_output rows
  pub registers : AreRegisterRows rows p.count e.code.first_reg old.regs.items e.code.nexts.items
  pub kept : AreKept rows e.code.reads.items e.code.puts.items p.count (words_of old.arrays.items) (length old.arrays.items)
  pub put : ArePut rows e.code.puts.items p.count (words_of old.arrays.items) (words_of new.arrays.items) (length old.arrays.items)
  pub long : length new.regs.items ≡ length old.regs.items
  pub taken : (r : ℕ) → r < length new.regs.items → slice_index new.regs.items r ≡ value_at rows p.count (e.code.first_reg + r)

-- Rows can be judged over the clocks of a piece.
pub record CanJudge (e : Engine) (made : List (List ℕ)) (spare : PassRoom) (taken : List (Vec ℕ Global)) (s : Stored) (p : Piece) : Type 0 where
  -- the rows have these clocks and one place more
  pub wide : AreWide e made p.count
  -- spare rows have these clocks
  pub room : IsPassRoom spare p.count
  -- each array has a row for what its puts take away
  pub losts : length taken ≡ length s.arrays.items
  -- of these clocks
  pub lost : HaveLong (items_of taken) p.count
  -- each register has a next value
  pub regs : length s.regs.items ≡ length e.code.nexts.items
  -- each array has one read
  pub reads : length e.code.reads.items ≡ length s.arrays.items
  -- and one put
  pub puts : length e.code.puts.items ≡ length s.arrays.items
  -- each clock has all dins
  pub dins : HasDins e.ports p

-- Rows that keep the equations of the inputs and of the registers, which store this.
pub record AreRight (e : Engine) (made : List (List ℕ)) (p : Piece) (regs : List ℕ) : Type 0 where
  -- the inputs' rows are what the ports are given
  pub given : AreInputRows e.has_enable e.ports p e.code.first_output made
  -- each register's row is what it holds, and then its next value
  pub kept : AreRegisterRows made p.count e.code.first_reg regs e.code.nexts.items

-- Rows that were judged over the clocks of a piece.
pub record JudgesRows (e : Engine) (made : List (List ℕ)) (p : Piece) (old new : Stored) (result : Bool) : Type 0 where
  -- true: they keep all equations, and the contents are those after these clocks
  pub yes : IsTrue result → IsJudged e made p old new
  -- false: the contents are as before
  pub back : IsFalse result → contents_in new ≡ contents_in old

-- Rows have room for this many clocks of this many arrays.
pub record HasRoomFor (made : Rows) (arrays count : ℕ) : Type 0 where
  -- a piece may have `count` clocks
  pub most : count ≤ made.size
  -- spare rows have them
  pub room : IsPassRoom made.room count
  -- each array has a row for what its puts take away
  pub losts : length made.lost.items ≡ arrays
  -- of these clocks
  pub lost : HaveLong (items_of made.lost.items) count

-- the rows are those of a run over the clocks of a piece
abbrev pub RanOver : Netlist → Piece → (old new : Stored) → Rows → Type 0
RanOver m p old new r = RowsRan m (clocks_in m p) (contents_in old) (contents_in new) (values_of r.guess.rows)

-- what a simulator of batches is made of
pub record AreBatches (m : Netlist) (stored : Stored) (count : ℕ) (rows : Option Rows) : Type 0 where
  pub rules : KeepsRules m
  pub ports : count ≡ din_count m
  pub fits : FitsContents m (contents_in stored)
  pub wide : IfSome rows (AreRowsOf m)

-- A piece can be tried over rows from these contents.
pub record CanTry (m : Netlist) (s : Stored) (p : Piece) : Type 0 where
  -- the netlist keeps the rules
  pub rules : KeepsRules m
  -- the contents fit it
  pub fits : FitsContents m (contents_in s)
  -- the piece is of a batch for it
  pub piece : IsPieceOf m p

-- The contents after a piece was tried over rows.
pub record TriesRows (m : Netlist) (p : Piece) (old new : Stored) (r : Rows) (result : Bool) : Type 0 where
  -- true: the rows have room for its clocks
  pub most : IsTrue result → p.count ≤ r.size
  -- the contents fit the netlist
  pub fits : FitsContents m (contents_in new)
  -- true: the rows are those of a run over its clocks
  pub ran : IsTrue result → RanOver m p old new r
  -- false: the contents are as before
  pub back : IsFalse result → contents_in new ≡ contents_in old

-- The contents and the outputs after a piece was tried over rows.
pub record TriesPiece (m : Netlist) (p : Piece) (old new : Stored) (before after : List Out) (result : Bool) : Type 0 where
  -- the contents fit the netlist
  pub fits : FitsContents m (contents_in new)
  -- true: its clocks took place
  pub ran : IsTrue result → PieceRan m p (contents_in old) (contents_in new) before after
  -- false: the contents are as before
  pub back : IsFalse result → contents_in new ≡ contents_in old
  -- and so are the outputs
  pub outs : IsFalse result → after ≡ before
