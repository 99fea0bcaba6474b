-- A netlist as contracts see it.
use Rattle.std.specs.Prelude.{ℕ, ◌+◌, ◌*◌, ◌<◌, Bool, if◌then◌else◌, List, length, slice_index, slice_get, unwrap_or}
use Rattle.std.specs.Option.{option_map}
use Rattle.wiring.specs.declared.netlist.Net.{Net}
use Rattle.wiring.specs.declared.netlist.Net.TheVariants.{Input, Output, Wire, Reg}
use Rattle.wiring.specs.declared.netlist.Holder.{Holder}
use Rattle.wiring.specs.declared.netlist.Holder.TheVariants.{OfNet, OfArray}
use Rattle.wiring.specs.declared.netlist.Shape.{Shape}
use Rattle.wiring.specs.declared.netlist.Assign.{Assign}
use Rattle.wiring.specs.declared.netlist.Update.{Update}
use Rattle.wiring.specs.declared.netlist.Update.TheVariants.{Set, Put}
use Rattle.wiring.specs.declared.netlist.Netlist.{Netlist as TheNetlist}

-- the widths of the nets of each sort, the arrays, and what drives them, each in the order of the text
pub record Netlist : Type 0 where
  pub enable : Bool
  pub inputs : List ℕ
  pub outputs : List ℕ
  pub wires : List ℕ
  pub regs : List ℕ
  pub arrays : List Shape
  pub assigns : List Assign
  pub updates : List Update

abbrev pub netlist_of : TheNetlist → Netlist
netlist_of w = record { enable = w.enable; inputs = w.inputs.items; outputs = w.outputs.items; wires = w.wires.items; regs = w.regs.items; arrays = w.arrays.items; assigns = w.assigns.items; updates = w.updates.items }

abbrev pub net_width : Netlist → Net → ℕ
net_width m (Input i) = slice_index m.inputs i
net_width m (Output i) = slice_index m.outputs i
net_width m (Wire i) = slice_index m.wires i
net_width m (Reg i) = slice_index m.regs i

abbrev pub IsDeclared : Netlist → Net → Type 0
IsDeclared m (Input i) = i < length m.inputs
IsDeclared m (Output i) = i < length m.outputs
IsDeclared m (Wire i) = i < length m.wires
IsDeclared m (Reg i) = i < length m.regs

-- 0 for an array that there is not
abbrev pub word_width : Netlist → ℕ → ℕ
word_width m a = unwrap_or (option_map (λ (s : Shape). s.width) (slice_get m.arrays a)) 0

abbrev pub depth : Netlist → ℕ → ℕ
depth m a = unwrap_or (option_map (λ (s : Shape). s.depth) (slice_get m.arrays a)) 0

-- a wire or an output
abbrev pub IsDriven : Netlist → Net → Type 0
IsDriven m (Input i) = ⊥
IsDriven m (Output i) = i < length m.outputs
IsDriven m (Wire i) = i < length m.wires
IsDriven m (Reg i) = ⊥

-- a register or an array
abbrev pub IsState : Netlist → Holder → Type 0
IsState m (OfNet (Input i)) = ⊥
IsState m (OfNet (Output i)) = ⊥
IsState m (OfNet (Wire i)) = ⊥
IsState m (OfNet (Reg i)) = i < length m.regs
IsState m (OfArray x) = x < length m.arrays

abbrev pub update_target : Update → Holder
update_target (Set r a) = OfNet (Reg r)
update_target (Put x i a) = OfArray x

-- the ports: rst, en where there is one, then each din; of each output its valid and its dout
abbrev pub reset_net : Net
reset_net = Input 0

abbrev pub enable_net : Net
enable_net = Input 1

abbrev pub first_din : Netlist → ℕ
first_din m = if m.enable then 2 else 1

abbrev pub din_net : Netlist → ℕ → Net
din_net m k = Input (first_din m + k)

-- the port `valid` of output k: two ports for each output
abbrev pub valid_net : ℕ → Net
valid_net k = Output (2 * k)

-- the port `dout` of output k
abbrev pub dout_net : ℕ → Net
dout_net k = Output (2 * k + 1)
