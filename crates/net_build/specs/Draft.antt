-- A netlist in the making: each of its wires has its assign, and no output has one yet.
use Rattle.std.specs.Prelude.{◌≡◌, ◌≢◌, ◌⊎◌, ℕ, suc, ◌<◌, ◌^◌, Bool, if◌then◌else◌, List, [], ◌∷◌, ◌++◌, length, slice_get, Some, All, Contains}
use Rattle.wiring.specs.declared.right.Right.{Right}
use Rattle.wiring.specs.declared.right.Right.TheVariants.{Copy}
use Rattle.wiring.specs.declared.right.Atom.{Atom}
use Rattle.wiring.specs.declared.right.Atom.TheVariants as atom
use Rattle.wiring.specs.declared.netlist.Net.{Net}
use Rattle.wiring.specs.declared.netlist.Net.TheVariants.{Input, Output, Wire, Reg}
use Rattle.wiring.specs.declared.netlist.Shape.{Shape}
use Rattle.wiring.specs.declared.netlist.Assign.{Assign}
use Rattle.wiring.specs.declared.netlist.Update.{Update}
use Rattle.wiring.specs.declared.netlist.Holder.{Holder}
use Rattle.wiring.specs.Netlist.{Netlist, net_width, word_width, IsDeclared, IsState, update_target}
use Rattle.wiring.specs.Sizes.{IsWidth, IsConstant}
use Rattle.wiring.specs.Snapshot.{Snapshot, FitsContents, Fit, IsSettled, net_value}
use Rattle.net_build.specs.Includes.{Includes}
use Rattle.wiring.specs.Rights.{nets_of, atom_nets, atom_constants, atom_width, right_width}
use Rattle.wiring.specs.Rules.{ArePorts, IsShape, RightIsSound, AssignIsSound, UpdateIsSound, with_valids}

-- no assigns, no registers and no arrays
abbrev pub empty_draft : Bool → List ℕ → List ℕ → Netlist
empty_draft enable dins douts = record {
  enable = enable;
  inputs = 1 ∷ (if enable then 1 ∷ dins else dins);
  outputs = with_valids douts;
  wires = [];
  regs = [];
  arrays = [];
  assigns = [];
  updates = [];
}

-- a net that there is, and no output
pub record IsNet (b : Netlist) (n : Net) : Type 0 where
  pub declared : IsDeclared b n
  pub no_output : (k : ℕ) → n ≢ Output k

-- it reads no output
abbrev pub IsReadable : Right Net ℕ → Type 0
IsReadable r = (k : ℕ) → Contains (nets_of r) (Output k) → ⊥

abbrev pub width_of : Netlist → Right Net ℕ → ℕ
width_of b r = right_width (net_width b) (word_width b) r

-- a right side over nets, arrays and constants of the draft
pub record IsOperation (b : Netlist) (r : Right Net ℕ) : Type 0 where
  pub sound : RightIsSound b r
  pub readable : IsReadable r
  pub wide : IsWidth (width_of b r)

-- what may are in a right side of the draft, of this width
pub record IsOperand (b : Netlist) (a : Atom Net) (width : ℕ) : Type 0 where
  pub nets : (n : Net) → Contains (atom_nets a) n → IsNet b n
  pub constants : All IsConstant (atom_constants a)
  pub width_is : atom_width (net_width b) a ≡ width

-- the wire of this number has this right side
abbrev pub HasWire : Netlist → ℕ → Right Net ℕ → Type 0
HasWire b k r = slice_get b.assigns k ≡ Some (record { target = Wire k; right = r })

-- one more wire, with this right side
abbrev pub with_wire : Netlist → Right Net ℕ → Netlist
with_wire b r = record b { wires = b.wires ++ width_of b r ∷ []; assigns = b.assigns ++ (record { target = Wire (length b.wires); right = r }) ∷ [] }

-- the wire of this right side is added, or there already
abbrev pub SharesOrAdds : (new old : Netlist) → Right Net ℕ → Type 0
SharesOrAdds new old r = (new ≡ old) ⊎ (new ≡ with_wire old r)

-- the new draft has more wires, and nothing else
pub record AddsWires (new old : Netlist) : Type 0 where
  pub regs : new.regs ≡ old.regs
  pub arrays : new.arrays ≡ old.arrays
  pub updates : new.updates ≡ old.updates

-- one more register, array or update
abbrev pub with_reg : Netlist → ℕ → Netlist
with_reg b width = record b { regs = b.regs ++ width ∷ [] }

abbrev pub with_array : Netlist → Shape → Netlist
with_array b shape = record b { arrays = b.arrays ++ shape ∷ [] }

abbrev pub with_update : Netlist → Update → Netlist
with_update b u = record b { updates = b.updates ++ u ∷ [] }

-- no two assigns have the same right side
abbrev pub RightsDiffer : List Assign → Type 0
RightsDiffer assigns = (j k : ℕ) (a b : Assign) → slice_get assigns j ≡ Some a → slice_get assigns k ≡ Some b → a.right ≡ b.right → j ≡ k

-- no update is of this register or array
abbrev pub IsFree : Netlist → Holder → Type 0
IsFree b h = (k : ℕ) (u : Update) → slice_get b.updates k ≡ Some u → update_target u ≢ h

-- no two updates are of the same register or array
abbrev pub UpdatesDiffer : List Update → Type 0
UpdatesDiffer updates = (j k : ℕ) (u v : Update) → slice_get updates j ≡ Some u → slice_get updates k ≡ Some v → update_target u ≡ update_target v → j ≡ k

-- a register or an array has its update
abbrev pub HasUpdate : Netlist → Holder → Type 0
HasUpdate b h = (k : ℕ) × (u : Update) × (slice_get b.updates k ≡ Some u) × (update_target u ≡ h)

-- each register and each array has its update, or is one of these
abbrev pub UpdatedBut : Netlist → List Holder → Type 0
UpdatedBut b free = (h : Holder) → IsState b h → Contains free h ⊎ HasUpdate b h

-- each register and each array has its update
abbrev pub AllUpdated : Netlist → Type 0
AllUpdated b = (h : Holder) → IsState b h → HasUpdate b h

-- the k-th assign drives the k-th wire and reads only earlier wires, and no two updates are of the same register or array
pub record IsDraft (b : Netlist) : Type 0 where
  pub ports : ArePorts b.enable b.inputs b.outputs
  pub wires : length b.assigns ≡ length b.wires
  pub each : (k : ℕ) (a : Assign) → slice_get b.assigns k ≡ Some a → a.target ≡ Wire k
  pub wire_widths : All IsWidth b.wires
  pub reg_widths : All IsWidth b.regs
  pub shapes : All IsShape b.arrays
  pub sound : All (AssignIsSound b) b.assigns
  pub readable : (k : ℕ) (a : Assign) → slice_get b.assigns k ≡ Some a → IsReadable a.right
  pub earlier : (k : ℕ) (a : Assign) (j : ℕ) → slice_get b.assigns k ≡ Some a → Contains (nets_of a.right) (Wire j) → j < k
  pub differ : RightsDiffer b.assigns
  pub updates : All (UpdateIsSound b) b.updates
  pub once : UpdatesDiffer b.updates

-- the number of a net among those of its sort
abbrev pub number : Net → ℕ
number (Input k) = k
number (Output k) = k
number (Wire k) = k
number (Reg k) = k

-- a register of the draft
abbrev pub IsRegister : Netlist → Net → Type 0
IsRegister b n = (n ≡ Reg (number n)) × (number n < length b.regs)

abbrev pub output_assign : ℕ → Net → Assign
output_assign k n = record { target = Output k; right = Copy (atom.Net n) }

-- the outputs take these nets, from the k-th on
abbrev pub output_assigns : ℕ → List Net → List Assign
output_assigns k [] = []
output_assigns k (n ∷ ns) = output_assign k n ∷ output_assigns (suc k) ns

-- each valid before its dout
abbrev pub flat : List (Net × Net) → List Net
flat [] = []
flat (p ∷ outs) = p.0 ∷ (p.1 ∷ flat outs)

-- what an output can take
pub record IsSource (b : Netlist) (k : ℕ) (n : Net) : Type 0 where
  pub net : IsNet b n
  pub width_is : net_width b n ≡ net_width b (Output k)

-- a net for each output
pub record AreSources (b : Netlist) (sources : List Net) : Type 0 where
  pub one_each : length sources ≡ length b.outputs
  pub each : (k : ℕ) (n : Net) → slice_get sources k ≡ Some n → IsSource b k n

-- the draft with its outputs
abbrev pub with_outputs : Netlist → List Net → Netlist
with_outputs b sources = record b { assigns = b.assigns ++ output_assigns 0 sources }

-- the numbers below n, in order
pub record IsCounted (xs : List ℕ) (n : ℕ) : Type 0 where
  pub long : length xs ≡ n
  pub each : (p : ℕ) → p < n → slice_get xs p ≡ Some p

-- in each valuation of every netlist that includes the draft, where contents and inputs fit their widths, so do the values of the draft's nets
abbrev pub ValuesFit : Netlist → Type 0
ValuesFit b = (m : Netlist) (s : Snapshot) → Includes m b → IsSettled m s → FitsContents m s.contents → Fit m.inputs s.inputs → (n : Net) → IsNet b n → net_value s n < 2 ^ net_width m n
