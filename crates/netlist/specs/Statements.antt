-- For the private functions: statements by what their names denote, and what is wrong with one.
use Rattle.std.specs.Prelude.{◌≡◌, ◌≤◌, ◌<◌, ◌+◌, ◌-◌, ℕ, Bool, true, ◌&&◌, is_some, List, [], ◌∷◌, All, Some}
use Rattle.wiring.specs.declared.right.Right.{Right}
use Rattle.wiring.specs.declared.netlist.Net.{Net}
use Rattle.wiring.specs.declared.netlist.Net.TheVariants.{Input, Output, Wire, Reg}
use Rattle.wiring.specs.declared.netlist.Assign.{Assign}
use Rattle.wiring.specs.declared.netlist.Update.{Update}
use Rattle.wiring.specs.declared.netlist.Netlist.{Netlist as TheNetlist}
use Rattle.wiring.specs.Sizes.{IsConstant}
use Rattle.wiring.specs.Rights.{constants_of, right_width}
use Rattle.wiring.specs.Netlist.{Netlist, net_width, word_width}
use Rattle.wiring.specs.Rules.{WidthsAgree, DivisorIsConstant}
use Rattle.netlist.specs.declared.parts.Parts.{Parts}
use Rattle.netlist.specs.declared.parts.NamedAssign.{NamedAssign}
use Rattle.netlist.specs.declared.parts.NamedUpdate.{NamedUpdate}
use Rattle.netlist.specs.declared.fault.Statement.{Statement}
use Rattle.netlist.specs.declared.fault.Statement.TheVariants.{Assign as AssignAt, Update as UpdateAt}
use Rattle.netlist.specs.declared.fault.NetFault.{NetFault}
use Rattle.netlist.specs.declared.fault.NetFault.TheVariants as faults
use Rattle.netlist.specs.declared.statement.Wrong.{Wrong}
use Rattle.netlist.specs.declared.statement.Wrong.TheVariants.{Unknown, WrongSort, Divisor, Width}
use Rattle.netlist.specs.Scopes.{Entry, stands_for, assign_named, update_named, update_constants, netlist_of_parts}
use Rattle.netlist.specs.Faults.{AllKnown, assign_names, update_names, AssignFits, UpdateFits}
use Rattle.netlist.specs.Passes.{FirstWrong}

-- whether each of the names is declared
abbrev pub all_known : List Entry → List (List ℕ) → Bool
all_known scope [] = true
all_known scope (n ∷ names) = is_some (stands_for scope n) && all_known scope names

-- a net of a sort that assigns drive
abbrev pub IsOfDrivenSort : Net → Type 0
IsOfDrivenSort (Input i) = ⊥
IsOfDrivenSort (Output i) = Unit {0}
IsOfDrivenSort (Wire i) = Unit {0}
IsOfDrivenSort (Reg i) = ⊥

-- the widths of a right side belong together and make this one
abbrev pub RightFits : Netlist → Right Net ℕ → ℕ → Type 0
RightFits m r target = WidthsAgree (net_width m) (word_width m) r × (right_width (net_width m) (word_width m) r ≡ target)

module _ (scope : List Entry) (m : Netlist) where
  -- the assign that a named one denotes, with nothing wrong
  pub record StandsForAssign (a : NamedAssign) (b : Assign) : Type 0 where
    pub named : assign_named scope a ≡ Some b
    pub driven : IsOfDrivenSort b.target
    pub divisor : DivisorIsConstant b.right
    pub fits : AssignFits m b
    pub constants : All IsConstant (constants_of a.right)

  pub record StandsForUpdate (u : NamedUpdate) (v : Update) : Type 0 where
    pub named : update_named scope u ≡ Some v
    pub fits : UpdateFits m v
    pub constants : All IsConstant (update_constants u)

  abbrev pub IsGoodAssign : NamedAssign → Type 0
  IsGoodAssign a = (b : Assign) × StandsForAssign a b

  abbrev pub IsGoodUpdate : NamedUpdate → Type 0
  IsGoodUpdate u = (v : Update) × StandsForUpdate u v

  abbrev pub IsWrongAssign : Wrong → NamedAssign → Type 0
  IsWrongAssign Unknown a = AllKnown scope (assign_names a) → ⊥
  IsWrongAssign WrongSort a = AllKnown scope (assign_names a) × ((b : Assign) → assign_named scope a ≡ Some b → IsOfDrivenSort b.target → ⊥)
  IsWrongAssign Divisor a = (b : Assign) × (assign_named scope a ≡ Some b) × IsOfDrivenSort b.target × (DivisorIsConstant b.right → ⊥)
  IsWrongAssign Width a = (b : Assign) × (assign_named scope a ≡ Some b) × IsOfDrivenSort b.target × DivisorIsConstant b.right × (AssignFits m b → ⊥)

  abbrev pub IsWrongUpdate : Wrong → NamedUpdate → Type 0
  IsWrongUpdate Unknown u = AllKnown scope (update_names u) → ⊥
  IsWrongUpdate WrongSort u = AllKnown scope (update_names u) × ((v : Update) → update_named scope u ≡ Some v → ⊥)
  IsWrongUpdate Divisor u = ⊥
  IsWrongUpdate Width u = (v : Update) × (update_named scope u ≡ Some v) × (UpdateFits m v → ⊥)

abbrev pub fault_of : Wrong → Statement → NetFault
fault_of Unknown s = faults.Unknown s
fault_of WrongSort s = faults.WrongSort s
fault_of Divisor s = faults.Divisor s
fault_of Width s = faults.Width s

-- the fault is what is wrong with the first of these that is not good
pub record IsFirstFault {X : Type 0} (Good : X → Type 0) (Bad : Wrong → X → Type 0) (statement : ℕ → Statement) (items : List X) (f : NetFault) : Type 0 where
  pub wrong : Wrong
  pub place : ℕ
  pub fault : f ≡ fault_of wrong (statement place)
  pub first : FirstWrong Good (Bad wrong) items place

-- the fault of the first assign that is wrong
abbrev pub IsAssignFault : List Entry → Netlist → List NamedAssign → NetFault → Type 0
IsAssignFault scope m named f = IsFirstFault (IsGoodAssign scope m) (IsWrongAssign scope m) (λ k. AssignAt k) named f

-- the fault of the first update that is wrong
abbrev pub IsUpdateFault : List Entry → Netlist → List NamedUpdate → NetFault → Type 0
IsUpdateFault scope m named f = IsFirstFault (IsGoodUpdate scope m) (IsWrongUpdate scope m) (λ k. UpdateAt k) named f

-- a part of a vector of this many bits, which is as wide as the target
abbrev pub IsSliceOf : (vector high low target : ℕ) → Type 0
IsSliceOf vector high low target = ((2 ≤ vector) × (low ≤ high) × (high < vector)) × (high - low + 1 ≡ target)

-- the ports, nets and arrays of the parts, whatever drives them
pub record HasNets (p : Parts) (w : TheNetlist) : Type 0 where
  pub enable : w.enable ≡ (netlist_of_parts p).enable
  pub inputs : w.inputs.items ≡ (netlist_of_parts p).inputs
  pub outputs : w.outputs.items ≡ (netlist_of_parts p).outputs
  pub wires : w.wires.items ≡ (netlist_of_parts p).wires
  pub regs : w.regs.items ≡ (netlist_of_parts p).regs
  pub arrays : w.arrays.items ≡ (netlist_of_parts p).arrays
