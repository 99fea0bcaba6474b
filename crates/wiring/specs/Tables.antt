-- Tables of what drives each net and array.
use Rattle.std.specs.Prelude.{◌≡◌, ◌≢◌, ℕ, ◌<◌, List, slice_get, Option, Some, None, unwrap_or}
use Rattle.wiring.specs.declared.netlist.Net.{Net}
use Rattle.wiring.specs.declared.netlist.Net.TheVariants.{Input, Output, Wire, Reg}
use Rattle.wiring.specs.declared.netlist.Assign.{Assign}
use Rattle.wiring.specs.declared.netlist.Update.{Update}
use Rattle.wiring.specs.declared.drivers.Drivers.{Drivers}
use Rattle.wiring.specs.declared.drivers.Updaters.{Updaters}
use Rattle.wiring.specs.declared.drivers.TableFault.{TableFault}
use Rattle.wiring.specs.declared.drivers.TableFault.TheVariants.{Twice, OutOfMemory}
use Rattle.wiring.specs.Netlist.{update_target}
use Rattle.wiring.specs.declared.netlist.Holder.{Holder}
use Rattle.wiring.specs.declared.netlist.Holder.TheVariants.{OfNet, OfArray}

-- the table has the place of the one item of each target
pub record IsTableOf {X T : Type 0} (target : X → T) (items : List X) (entry : T → Option ℕ) : Type 0 where
  pub sound : (t : T) (k : ℕ) → entry t ≡ Some k → (x : X) × (slice_get items k ≡ Some x) × (target x ≡ t)
  pub complete : (k : ℕ) (x : X) → slice_get items k ≡ Some x → entry (target x) ≡ Some k

-- no two of the first items have one target, and the item at k has that of an earlier one
pub record IsSecond {X T : Type 0} (target : X → T) (items : List X) (k : ℕ) : Type 0 where
  pub before : (i j : ℕ) (x y : X) → i < k → j < k → slice_get items i ≡ Some x → slice_get items j ≡ Some y → target x ≡ target y → i ≡ j
  pub earlier : ℕ
  pub first : X
  pub second : X
  pub order : earlier < k
  pub first_at : slice_get items earlier ≡ Some first
  pub second_at : slice_get items k ≡ Some second
  pub same : target first ≡ target second

abbrev pub IsTwice : {X T : Type 0} → (X → T) → List X → TableFault → Type 0
IsTwice target items (Twice k) = IsSecond target items k
IsTwice target items OutOfMemory = Unit {0}

-- the table has one entry more
pub record Notes {T : Type 0} (old new : T → Option ℕ) (t : T) (k : ℕ) : Type 0 where
  pub noted : new t ≡ Some k
  pub others : (u : T) → u ≢ t → new u ≡ old u

abbrev pub assign_target : Assign → Net
assign_target a = a.target

-- the assign that a table has for a net
abbrev pub driver_of : Drivers → Net → Option ℕ
driver_of d (Input i) = None
driver_of d (Output i) = unwrap_or (slice_get d.outputs.items i) None
driver_of d (Wire i) = unwrap_or (slice_get d.wires.items i) None
driver_of d (Reg i) = None

abbrev pub IsTable : List Assign → Drivers → Type 0
IsTable assigns d = IsTableOf assign_target assigns (driver_of d)

-- the update that a table has for a register or an array
abbrev pub updater_of : Updaters → Holder → Option ℕ
updater_of d (OfNet (Input i)) = None
updater_of d (OfNet (Output i)) = None
updater_of d (OfNet (Wire i)) = None
updater_of d (OfNet (Reg i)) = unwrap_or (slice_get d.regs.items i) None
updater_of d (OfArray x) = unwrap_or (slice_get d.arrays.items x) None

abbrev pub IsUpdateTable : List Update → Updaters → Type 0
IsUpdateTable updates d = IsTableOf update_target updates (updater_of d)

-- a table of this many outputs and wires has a place for the net
abbrev pub IsTarget : ℕ → ℕ → Net → Type 0
IsTarget outputs wires (Input i) = ⊥
IsTarget outputs wires (Output i) = i < outputs
IsTarget outputs wires (Wire i) = i < wires
IsTarget outputs wires (Reg i) = ⊥

-- one of this many registers and arrays has a place for it
abbrev pub IsStateTarget : ℕ → ℕ → Holder → Type 0
IsStateTarget regs arrays (OfNet (Input i)) = ⊥
IsStateTarget regs arrays (OfNet (Output i)) = ⊥
IsStateTarget regs arrays (OfNet (Wire i)) = ⊥
IsStateTarget regs arrays (OfNet (Reg i)) = i < regs
IsStateTarget regs arrays (OfArray x) = x < arrays
