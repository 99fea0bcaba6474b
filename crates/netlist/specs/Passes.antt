-- For the private functions: what the passes up to each one have shown, and the fault that a pass finds. The public definition is IsFault of Faults; proofs/Ruled shows that they are the same.
use Rattle.std.specs.Prelude.{◌≡◌, ℕ, ◌+◌, ◌<◌, List, length, map, slice_get, Some, All}
use Rattle.wiring.specs.declared.netlist.Assign.{Assign}
use Rattle.wiring.specs.declared.netlist.Update.{Update}
use Rattle.wiring.specs.Netlist.{update_target}
use Rattle.wiring.specs.Tables.{IsSecond, assign_target}
use Rattle.wiring.specs.Order.{DependsOn}
use Rattle.wiring.specs.Rules.{DivisorIsConstant}
use Rattle.netlist.specs.declared.parts.Parts.{Parts}
use Rattle.netlist.specs.declared.parts.NamedAssign.{NamedAssign}
use Rattle.netlist.specs.declared.parts.NamedUpdate.{NamedUpdate}
use Rattle.netlist.specs.declared.fault.Declared.{Declared}
use Rattle.netlist.specs.declared.fault.Declared.TheVariants.{Port as PortAt, Declaration as DeclarationAt}
use Rattle.netlist.specs.declared.fault.Statement.{Statement}
use Rattle.netlist.specs.declared.fault.Statement.TheVariants.{Assign as AssignAt, Update as UpdateAt}
use Rattle.netlist.specs.declared.fault.NetFault.{NetFault}
use Rattle.netlist.specs.declared.fault.NetFault.TheVariants.{Duplicate, Ports, Unknown, WrongSort, Divisor, Width, DrivenTwice, Undriven, Cycle}
use Rattle.netlist.specs.Names.{AreDistinct}
use Rattle.netlist.specs.Scopes.{Entry, scope_of, update_named, netlist_of_parts}
use Rattle.netlist.specs.Faults.{PortsFit, AllKnown, assign_names, update_names, AssignFits, UpdateFits, IsSorted, TargetsDiffer, HasDriver}

abbrev pub entry_names : Parts → List (List ℕ)
entry_names p = map (λ (e : Entry). e.name) (scope_of p)

abbrev pub NamesDiffer : Parts → Type 0
NamesDiffer p = AreDistinct (entry_names p)

-- the place of a port or declaration among all names
abbrev pub IsPlace : Parts → Declared → ℕ → Type 0
IsPlace p (PortAt k) place = (k < length p.ports.items) × (k ≡ place)
IsPlace p (DeclarationAt k) place = length p.ports.items + k ≡ place

-- the assign with nets in place of names; it drives a wire or an output
abbrev pub IsSortedAssign : Parts → NamedAssign → Assign → Type 0
IsSortedAssign p a b = IsSorted (scope_of p) (netlist_of_parts p) a b

module _ (p : Parts) where
  pub record FineAssign (a : NamedAssign) : Type 0 where
    pub known : AllKnown (scope_of p) (assign_names a)
    pub stands : Assign
    pub sorted : IsSortedAssign p a stands
    pub divisor : DivisorIsConstant stands.right
    pub widths : AssignFits (netlist_of_parts p) stands

  pub record FineUpdate (u : NamedUpdate) : Type 0 where
    pub known : AllKnown (scope_of p) (update_names u)
    pub stands : Update
    pub sorted : update_named (scope_of p) u ≡ Some stands
    pub widths : UpdateFits (netlist_of_parts p) stands

  abbrev pub UnknownAssign : NamedAssign → Type 0
  UnknownAssign a = AllKnown (scope_of p) (assign_names a) → ⊥

  abbrev pub UnknownUpdate : NamedUpdate → Type 0
  UnknownUpdate u = AllKnown (scope_of p) (update_names u) → ⊥

  pub record WrongSortAssign (a : NamedAssign) : Type 0 where
    pub known : AllKnown (scope_of p) (assign_names a)
    pub wrong : (b : Assign) → IsSortedAssign p a b → ⊥

  pub record WrongSortUpdate (u : NamedUpdate) : Type 0 where
    pub known : AllKnown (scope_of p) (update_names u)
    pub wrong : (v : Update) → update_named (scope_of p) u ≡ Some v → ⊥

  pub record DivisorAssign (a : NamedAssign) : Type 0 where
    pub known : AllKnown (scope_of p) (assign_names a)
    pub stands : Assign
    pub sorted : IsSortedAssign p a stands
    pub wrong : DivisorIsConstant stands.right → ⊥

  abbrev pub DivisorUpdate : NamedUpdate → Type 0
  DivisorUpdate u = ⊥

  pub record WidthAssign (a : NamedAssign) : Type 0 where
    pub known : AllKnown (scope_of p) (assign_names a)
    pub stands : Assign
    pub sorted : IsSortedAssign p a stands
    pub divisor : DivisorIsConstant stands.right
    pub wrong : AssignFits (netlist_of_parts p) stands → ⊥

  pub record WidthUpdate (u : NamedUpdate) : Type 0 where
    pub known : AllKnown (scope_of p) (update_names u)
    pub stands : Update
    pub sorted : update_named (scope_of p) u ≡ Some stands
    pub wrong : UpdateFits (netlist_of_parts p) stands → ⊥

-- the item at k is wrong, those before it are fine
pub record FirstWrong {X : Type 0} (Fine Wrong : X → Type 0) (items : List X) (k : ℕ) : Type 0 where
  pub item : X
  pub at : slice_get items k ≡ Some item
  pub wrong : Wrong item
  pub before : (j : ℕ) (x : X) → j < k → slice_get items j ≡ Some x → Fine x

-- assigns in order, then updates
abbrev pub FirstStatement : Parts → (NamedAssign → Type 0) → (NamedUpdate → Type 0) → Statement → Type 0
FirstStatement p WrongAssign WrongUpdate (AssignAt k) = FirstWrong (FineAssign p) WrongAssign p.assigns.items k
FirstStatement p WrongAssign WrongUpdate (UpdateAt k) = All (FineAssign p) p.assigns.items × FirstWrong (FineUpdate p) WrongUpdate p.updates.items k

pub record PassesPorts (p : Parts) : Type 0 where
  pub names : NamesDiffer p
  pub ports : PortsFit p.ports.items

pub record PassesStatements (p : Parts) : Type 0 where
  pub before : PassesPorts p
  pub assigns : All (FineAssign p) p.assigns.items
  pub updates : All (FineUpdate p) p.updates.items

pub record PassesTargets (p : Parts) : Type 0 where
  pub before : PassesStatements p
  pub assigns : TargetsDiffer assign_target (netlist_of_parts p).assigns
  pub updates : TargetsDiffer update_target (netlist_of_parts p).updates

pub record PassesDrivers (p : Parts) : Type 0 where
  pub before : PassesTargets p
  pub driven : (k : ℕ) (e : Entry) → slice_get (scope_of p) k ≡ Some e → HasDriver (netlist_of_parts p) e.meaning

-- the fault of the parts, by the pass that finds it
abbrev pub IsPassFault : Parts → NetFault → Type 0
IsPassFault p (Duplicate d) = (place : ℕ) × IsPlace p d place × IsSecond (λ (n : List ℕ). n) (entry_names p) place
IsPassFault p Ports = NamesDiffer p × (PortsFit p.ports.items → ⊥)
IsPassFault p (Unknown s) = PassesPorts p × FirstStatement p (UnknownAssign p) (UnknownUpdate p) s
IsPassFault p (WrongSort s) = PassesPorts p × FirstStatement p (WrongSortAssign p) (WrongSortUpdate p) s
IsPassFault p (Divisor s) = PassesPorts p × FirstStatement p (DivisorAssign p) (DivisorUpdate p) s
IsPassFault p (Width s) = PassesPorts p × FirstStatement p (WidthAssign p) (WidthUpdate p) s
IsPassFault p (DrivenTwice (AssignAt k)) = PassesStatements p × IsSecond assign_target (netlist_of_parts p).assigns k
IsPassFault p (DrivenTwice (UpdateAt k)) = PassesStatements p × TargetsDiffer assign_target (netlist_of_parts p).assigns × IsSecond update_target (netlist_of_parts p).updates k
IsPassFault p (Undriven d) = PassesTargets p × (place : ℕ) × IsPlace p d place × FirstWrong (λ (e : Entry). HasDriver (netlist_of_parts p) e.meaning) (λ (e : Entry). HasDriver (netlist_of_parts p) e.meaning → ⊥) (scope_of p) place
IsPassFault p (Cycle k) = PassesDrivers p × DependsOn (netlist_of_parts p).assigns k k
