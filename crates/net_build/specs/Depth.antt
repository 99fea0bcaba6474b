-- Logic depth: how many operators the paths of assigns to a net have.
use Rattle.std.specs.Prelude.{◌≡◌, ℕ, ◌+◌, ◌<◌, ◌≤◌, Bool, true, false, IsTrue, List, length, if◌then◌else◌, All, Contains}
use Rattle.wiring.specs.declared.right.Right.{Right}
use Rattle.wiring.specs.declared.right.Right.TheVariants.{Copy, Not, Binary, Choose, Join, Repeat, Bit, Slice, Word}
use Rattle.wiring.specs.declared.netlist.Net.{Net}
use Rattle.wiring.specs.declared.netlist.Net.TheVariants.{Input, Output, Wire, Reg}
use Rattle.wiring.specs.declared.netlist.Holder.{Holder}
use Rattle.wiring.specs.declared.netlist.Holder.TheVariants.{OfNet, OfArray}
use Rattle.wiring.specs.declared.netlist.Assign.{Assign}
use Rattle.wiring.specs.declared.netlist.Update.{Update}
use Rattle.wiring.specs.declared.netlist.Update.TheVariants.{Set, Put}
use Rattle.wiring.specs.Netlist.{Netlist}
use Rattle.wiring.specs.BufferBits.{atom_reads, right_reads, update_reads}

-- The operators of a right side. A copy, a part of a net, nets side by side and a word of an array are none.
abbrev pub operators : Right Net ℕ → ℕ
operators (Copy a) = 0
operators (Not a) = 1
operators (Binary o a b) = 1
operators (Choose c a b) = 1
operators (Join a b) = 0
operators (Repeat n a) = 0
operators (Bit x k) = 0
operators (Slice x top low) = 0
operators (Word x i) = 0

-- Made only of the base, with at most n operators on each path of assigns from it. A path to a word of an array may begin at its index.
pub data IsWithin (m : Netlist) (base : Holder → Bool) : (n : ℕ) → Holder → Type 0 where
  by_itself : {n : ℕ} {h : Holder} → IsTrue (base h) → IsWithin m base n h
  by_assign : {n : ℕ} {h : Holder} (a : Assign) (k : ℕ) → Contains m.assigns a → OfNet a.target ≡ h → operators a.right + k ≤ n → ((g : Holder) → Contains (right_reads a.right) g → IsWithin m base k g) → IsWithin m base n h

-- each of these nets is
abbrev pub AreWithin : Netlist → (Holder → Bool) → (n : ℕ) → List Net → Type 0
AreWithin m base n nets = (x : Net) → Contains nets x → IsWithin m base n (OfNet x)

-- Made of these nets of the old netlist, with at most k operators on each path from one of them: where they are within j, it is within k + j.
abbrev pub IsOver : (new old : Netlist) → (k : ℕ) → List Net → Net → Type 0
IsOver new old k from n = (base : Holder → Bool) (j : ℕ) → AreWithin old base j from → IsWithin new base (k + j) (OfNet n)

-- A clock path begins at an input, a register or an array.
abbrev pub is_start : Holder → Bool
is_start (OfNet (Input k)) = true
is_start (OfNet (Output k)) = false
is_start (OfNet (Wire k)) = false
is_start (OfNet (Reg k)) = true
is_start (OfArray x) = true

-- A clock path ends at the next value of a register, at the index or the value of a put, or at an output. Each clock path of the netlist has at most n operators.
pub record AreClockPathsWithin (m : Netlist) (n : ℕ) : Type 0 where
  pub updates : (u : Update) → Contains m.updates u → All (IsWithin m is_start n) (update_reads u)
  pub outputs : (k : ℕ) → k < length m.outputs → IsWithin m is_start n (OfNet (Output k))

-- the choice by en between a new word and the old one
abbrev pub hold_levels : (enable : Bool) → ℕ
hold_levels enable = if enable then 1 else 0

-- the most operators on a clock path to a register that the builder's users add: to a test of rows
abbrev pub control_levels : (enable : Bool) → ℕ
control_levels enable = 6 + hold_levels enable

-- A register takes what has at most `control_levels` operators on a path.
abbrev pub SetsWithin : Netlist → Update → Type 0
SetsWithin b (Set r a) = All (IsWithin b is_start (control_levels b.enable)) (atom_reads a)
SetsWithin b (Put x i a) = Unit {0}
