-- The rules that a netlist keeps.
use Rattle.std.specs.Prelude.{◌≡◌, ℕ, ◌<◌, ◌≤◌, Bool, if◌then◌else◌, List, [], ◌∷◌, length, slice_get, Some, IfSome, All}
use Rattle.wiring.specs.declared.TheConstants.{MOST_PORT_BITS, MOST_PORTS}
use Rattle.wiring.specs.Sizes.{IsWidth, IsDepth, IsConstant}
use Rattle.wiring.specs.declared.right.Atom.{Atom}
use Rattle.wiring.specs.declared.right.Atom.TheVariants as atom
use Rattle.wiring.specs.declared.right.Operator.{Operator}
use Rattle.wiring.specs.declared.right.Operator.TheVariants.{Add, Subtract, Multiply, Divide, Less, Equal, And, Or, Xor}
use Rattle.wiring.specs.declared.right.Right.{Right}
use Rattle.wiring.specs.declared.right.Right.TheVariants.{Copy, Not, Binary, Choose, Join, Repeat, Bit, Slice, Word}
use Rattle.wiring.specs.declared.netlist.Net.{Net}
use Rattle.wiring.specs.declared.netlist.Net.TheVariants.{Reg}
use Rattle.wiring.specs.declared.netlist.Shape.{Shape}
use Rattle.wiring.specs.declared.netlist.Assign.{Assign}
use Rattle.wiring.specs.declared.netlist.Update.{Update}
use Rattle.wiring.specs.declared.netlist.Update.TheVariants.{Set, Put}
use Rattle.wiring.specs.Rights.{array_of, nets_of, atom_nets, atom_constants, constants_of, atom_width, right_width}
use Rattle.wiring.specs.Netlist.{Netlist, net_width, word_width, IsDeclared, IsDriven, IsState, update_target}
use Rattle.wiring.specs.declared.netlist.Holder.{Holder}
use Rattle.wiring.specs.Order.{IsAcyclic}

-- this many dins there may be, and this many douts
abbrev pub IsPortCount : ℕ → Type 0
IsPortCount n = (1 ≤ n) × (n ≤ MOST_PORTS)

-- of this many bits each
abbrev pub IsPortWidth : ℕ → Type 0
IsPortWidth w = (1 ≤ w) × (w ≤ MOST_PORT_BITS)

-- the widths of the output ports: before each dout a valid of one bit
abbrev pub with_valids : List ℕ → List ℕ
with_valids [] = []
with_valids (w ∷ douts) = 1 ∷ (w ∷ with_valids douts)

-- the ports are those of the profile: rst, en where there is one, and the dins; for each dout a valid of one bit before it
pub record ArePorts (enable : Bool) (inputs outputs : List ℕ) : Type 0 where
  pub dins : List ℕ
  pub douts : List ℕ
  pub inputs_are : inputs ≡ 1 ∷ (if enable then 1 ∷ dins else dins)
  pub outputs_are : outputs ≡ with_valids douts
  pub din_count : IsPortCount (length dins)
  pub dout_count : IsPortCount (length douts)
  pub din_widths : All IsPortWidth dins
  pub dout_widths : All IsPortWidth douts

pub record IsShape (s : Shape) : Type 0 where
  pub width : IsWidth s.width
  pub depth : IsDepth s.depth

-- not a constant 0, and no net
abbrev pub IsDivisor : {N : Type 0} → Atom N → Type 0
IsDivisor (atom.Net n) = ⊥
IsDivisor (atom.Constant c) = 0 < c.value

abbrev pub DividesByDivisor : {N : Type 0} → Operator → Atom N → Type 0
DividesByDivisor Divide b = IsDivisor b
DividesByDivisor Add b = Unit {0}
DividesByDivisor Subtract b = Unit {0}
DividesByDivisor Multiply b = Unit {0}
DividesByDivisor Less b = Unit {0}
DividesByDivisor Equal b = Unit {0}
DividesByDivisor And b = Unit {0}
DividesByDivisor Or b = Unit {0}
DividesByDivisor Xor b = Unit {0}

-- the operands' widths belong together
abbrev pub WidthsAgree : {N A : Type 0} → (N → ℕ) → (A → ℕ) → Right N A → Type 0
WidthsAgree width word_width (Copy a) = Unit {0}
WidthsAgree width word_width (Not a) = Unit {0}
WidthsAgree width word_width (Binary o a b) = atom_width width a ≡ atom_width width b
WidthsAgree width word_width (Choose c a b) = (atom_width width c ≡ 1) × (atom_width width a ≡ atom_width width b)
WidthsAgree width word_width (Join a b) = Unit {0}
WidthsAgree width word_width (Repeat n a) = Unit {0}
WidthsAgree width word_width (Bit v k) = (2 ≤ width v) × (k < width v)
WidthsAgree width word_width (Slice v m l) = (2 ≤ width v) × (l ≤ m) × (m < width v)
WidthsAgree width word_width (Word m i) = Unit {0}

abbrev pub DivisorIsConstant : {N A : Type 0} → Right N A → Type 0
DivisorIsConstant (Copy a) = Unit {0}
DivisorIsConstant (Not a) = Unit {0}
DivisorIsConstant (Binary o a b) = DividesByDivisor o b
DivisorIsConstant (Choose c a b) = Unit {0}
DivisorIsConstant (Join a b) = Unit {0}
DivisorIsConstant (Repeat n a) = Unit {0}
DivisorIsConstant (Bit v k) = Unit {0}
DivisorIsConstant (Slice v m l) = Unit {0}
DivisorIsConstant (Word m i) = Unit {0}

abbrev pub ArrayIsDeclared : Netlist → Right Net ℕ → Type 0
ArrayIsDeclared m r = IfSome (array_of r) (λ a. a < length m.arrays)

pub record RightIsSound (m : Netlist) (r : Right Net ℕ) : Type 0 where
  pub nets : All (IsDeclared m) (nets_of r)
  pub constants : All IsConstant (constants_of r)
  pub array : ArrayIsDeclared m r
  pub divisor : DivisorIsConstant r
  pub widths : WidthsAgree (net_width m) (word_width m) r

pub record AssignIsSound (m : Netlist) (a : Assign) : Type 0 where
  pub target : IsDriven m a.target
  pub right : RightIsSound m a.right
  pub width : right_width (net_width m) (word_width m) a.right ≡ net_width m a.target

pub record AtomIsSound (m : Netlist) (a : Atom Net) : Type 0 where
  pub nets : All (IsDeclared m) (atom_nets a)
  pub constants : All IsConstant (atom_constants a)

abbrev pub UpdateIsSound : Netlist → Update → Type 0
UpdateIsSound m (Set r a) = (r < length m.regs) × AtomIsSound m a × (atom_width (net_width m) a ≡ net_width m (Reg r))
UpdateIsSound m (Put x i a) = (x < length m.arrays) × AtomIsSound m i × AtomIsSound m a × (atom_width (net_width m) a ≡ word_width m x)

-- one assign of each wire and output
pub record DrivenOnce (m : Netlist) : Type 0 where
  pub some : (n : Net) → IsDriven m n → (k : ℕ) × (a : Assign) × (slice_get m.assigns k ≡ Some a) × (a.target ≡ n)
  pub one : (j k : ℕ) (a b : Assign) → slice_get m.assigns j ≡ Some a → slice_get m.assigns k ≡ Some b → a.target ≡ b.target → j ≡ k

-- one update of each register and array
pub record UpdatedOnce (m : Netlist) : Type 0 where
  pub some : (h : Holder) → IsState m h → (k : ℕ) × (u : Update) × (slice_get m.updates k ≡ Some u) × (update_target u ≡ h)
  pub one : (j k : ℕ) (u v : Update) → slice_get m.updates j ≡ Some u → slice_get m.updates k ≡ Some v → update_target u ≡ update_target v → j ≡ k

pub record KeepsRules (m : Netlist) : Type 0 where
  pub ports : ArePorts m.enable m.inputs m.outputs
  pub wires : All IsWidth m.wires
  pub regs : All IsWidth m.regs
  pub arrays : All IsShape m.arrays
  pub assigns : All (AssignIsSound m) m.assigns
  pub updates : All (UpdateIsSound m) m.updates
  pub driven : DrivenOnce m
  pub updated : UpdatedOnce m
  pub acyclic : IsAcyclic m.assigns
