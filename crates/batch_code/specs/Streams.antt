-- The streams of a netlist over a batch of clocks.
use Rattle.std.specs.Prelude.{◌≡◌, ℕ, suc, ◌<◌, List, length, slice_index, slice_get, slice_set, Some, All}
use Rattle.wiring.specs.declared.netlist.Net.{Net}
use Rattle.wiring.specs.declared.netlist.Net.TheVariants.{Input, Output, Wire, Reg}
use Rattle.wiring.specs.declared.netlist.Assign.{Assign}
use Rattle.wiring.specs.declared.netlist.Update.{Update}
use Rattle.wiring.specs.declared.netlist.Update.TheVariants.{Set, Put}
use Rattle.wiring.specs.Rights.{atom_value, right_value}
use Rattle.wiring.specs.Netlist.{Netlist, net_width, depth}
use Rattle.wiring.specs.Snapshot.{Contents, Snapshot, accesses}
use Rattle.wiring.specs.Clock.{Clock, given}
use Rattle.batch_code.specs.Batch.{firsts}

-- the value of each net at each clock, and the words of each array before each clock
pub record Streams : Type 0 where
  pub value : ℕ → Net → ℕ
  pub words : ℕ → ℕ → List ℕ

abbrev pub contents_at : Netlist → Streams → ℕ → Contents
contents_at m s t = record { regs = firsts (λ i. s.value t (Reg i)) (length m.regs); arrays = firsts (s.words t) (length m.arrays) }

abbrev pub shot_at : Netlist → Streams → ℕ → Snapshot
shot_at m s t = record {
  inputs = firsts (λ i. s.value t (Input i)) (length m.inputs);
  outputs = firsts (λ i. s.value t (Output i)) (length m.outputs);
  wires = firsts (λ i. s.value t (Wire i)) (length m.wires);
  contents = contents_at m s t;
}

-- the equation of an assign at a clock
abbrev pub AssignHolds : Netlist → Streams → ℕ → Assign → Type 0
AssignHolds m s t a = s.value t a.target ≡ right_value (net_width m) (λ x i. slice_index (s.words t x) i) (s.value t) a.right

-- the equation of a register or array from a clock to the next
abbrev pub UpdateHolds : Streams → ℕ → Update → Type 0
UpdateHolds s t (Set r a) = s.value (suc t) (Reg r) ≡ atom_value (s.value t) a
UpdateHolds s t (Put x i a) = s.words (suc t) x ≡ slice_set (s.words t x) (atom_value (s.value t) i) (atom_value (s.value t) a)

-- every equation holds at every clock, and every index is inside
pub record AreStreams (m : Netlist) (clocks : List Clock) (s : Streams) : Type 0 where
  pub given_are : (t : ℕ) (c : Clock) → slice_get clocks t ≡ Some c → firsts (λ i. s.value t (Input i)) (length m.inputs) ≡ given m c
  pub assigns : (t : ℕ) → t < length clocks → (k : ℕ) (a : Assign) → slice_get m.assigns k ≡ Some a → AssignHolds m s t a
  pub updates : (t : ℕ) → t < length clocks → (k : ℕ) (u : Update) → slice_get m.updates k ≡ Some u → UpdateHolds s t u
  pub inside : (t : ℕ) → t < length clocks → All (λ access. atom_value (s.value t) access.1 < depth m access.0) (accesses m)
