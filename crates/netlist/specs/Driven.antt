-- For the private functions: what the tables of drivers say of the nets and arrays of a scope.
use Rattle.std.specs.Prelude.{◌≡◌, ◌⊎◌, ℕ, Bool, true, is_some, List, length, All}
use Rattle.wiring.specs.declared.netlist.Net.TheVariants.{Input, Output, Wire, Reg}
use Rattle.wiring.specs.declared.netlist.Holder.TheVariants.{OfNet, OfArray}
use Rattle.wiring.specs.declared.netlist.Assign.{Assign}
use Rattle.wiring.specs.declared.netlist.Update.{Update}
use Rattle.wiring.specs.Netlist.{Netlist, netlist_of, update_target}
use Rattle.wiring.specs.Tables.{IsSecond, IsTarget, IsStateTarget, assign_target, driver_of, updater_of, IsTable, IsUpdateTable}
use Rattle.wiring.specs.Order.{DependsOn, IsEvaluationOrder}
use Rattle.netlist.specs.declared.parts.Parts.{Parts}
use Rattle.netlist.specs.declared.fault.Declared.{Declared}
use Rattle.netlist.specs.declared.fault.Statement.TheVariants.{Assign as AssignAt, Update as UpdateAt}
use Rattle.netlist.specs.declared.fault.NetFault.{NetFault}
use Rattle.netlist.specs.declared.fault.NetFault.TheVariants.{DrivenTwice, Undriven, Cycle}
use Rattle.netlist.specs.declared.drive.Tables.{Tables}
use Rattle.netlist.specs.declared.checking.Wired.{Wired}
use Rattle.netlist.specs.Scopes.{Meaning, clock, net, array, Entry, SizesFit, NamesAre, netlist_of_parts}
use Rattle.netlist.specs.Faults.{TargetsDiffer}
use Rattle.netlist.specs.Passes.{FirstWrong, IsPlace, PassesDrivers}

-- each assign drives an output or a wire that is there
abbrev pub AreTargets : Netlist → Type 0
AreTargets m = All (λ (a : Assign). IsTarget (length m.outputs) (length m.wires) a.target) m.assigns

-- each update is of a register or an array that is there
abbrev pub AreStateTargets : Netlist → Type 0
AreStateTargets m = All (λ (u : Update). IsStateTarget (length m.regs) (length m.arrays) (update_target u)) m.updates

-- whether the tables have what drives it; the clock and inputs need nothing
abbrev pub is_driven_by : Tables → Meaning → Bool
is_driven_by d clock = true
is_driven_by d (net (Input i)) = true
is_driven_by d (net (Output i)) = is_some (driver_of d.drivers (Output i))
is_driven_by d (net (Wire i)) = is_some (driver_of d.drivers (Wire i))
is_driven_by d (net (Reg i)) = is_some (updater_of d.updaters (OfNet (Reg i)))
is_driven_by d (array x) = is_some (updater_of d.updaters (OfArray x))

abbrev pub IsDrivenEntry : Tables → Entry → Type 0
IsDrivenEntry d e = is_driven_by d e.meaning ≡ true

-- the first of the entries that nothing drives
abbrev pub IsUndrivenPlace : Tables → List Entry → ℕ → Type 0
IsUndrivenPlace d scope place = FirstWrong (IsDrivenEntry d) (λ e. IsDrivenEntry d e → ⊥) scope place

pub record AreTables (m : Netlist) (d : Tables) : Type 0 where
  pub drivers : IsTable m.assigns d.drivers
  pub updaters : IsUpdateTable m.updates d.updaters

-- the assign, or update, that is the first second one of its target
abbrev pub IsSecondAssign : Netlist → NetFault → Type 0
IsSecondAssign m f = (k : ℕ) × (f ≡ DrivenTwice (AssignAt k)) × IsSecond assign_target m.assigns k

abbrev pub IsSecondUpdate : Netlist → NetFault → Type 0
IsSecondUpdate m f = (k : ℕ) × (f ≡ DrivenTwice (UpdateAt k)) × IsSecond update_target m.updates k

abbrev pub IsDrivenTwice : Netlist → NetFault → Type 0
IsDrivenTwice m f = IsSecondAssign m f ⊎ (TargetsDiffer assign_target m.assigns × IsSecondUpdate m f)

-- the first of the scope that nothing drives
pub record IsFirstUndriven (p : Parts) (scope : List Entry) (d : Tables) (f : NetFault) : Type 0 where
  pub declared : Declared
  pub place : ℕ
  pub fault : f ≡ Undriven declared
  pub is_place : IsPlace p declared place
  pub first : FirstWrong (IsDrivenEntry d) (λ e. IsDrivenEntry d e → ⊥) scope place

abbrev pub IsCycle : Netlist → NetFault → Type 0
IsCycle m f = (k : ℕ) × (f ≡ Cycle k) × DependsOn m.assigns k k

-- the parts with nets and arrays in place of names, and an order of their assigns
pub record IsWired (p : Parts) (w : Wired) : Type 0 where
  pub netlist : netlist_of w.wiring ≡ netlist_of_parts p
  pub passes : PassesDrivers p
  pub ordered : IsEvaluationOrder (netlist_of_parts p).assigns w.order.items
  pub sizes : SizesFit p
  pub names : NamesAre p
