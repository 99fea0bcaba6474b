-- What one netlist has of another, as of the part of it that was built first.
use Rattle.std.specs.Prelude.{◌≡◌, List, ◌++◌}
use Rattle.wiring.specs.Netlist.{Netlist}
use Rattle.wiring.specs.Snapshot.{Contents, Snapshot, IsSettled, IsNext}

-- the second list goes on after the first
abbrev pub Begins : {X : Type 0} → List X → List X → Type 0
Begins {X} xs ys = (rest : List X) × (ys ≡ xs ++ rest)

-- the netlist m has all that part has, under the same numbers
pub record Includes (m part : Netlist) : Type 0 where
  pub enable : m.enable ≡ part.enable
  pub inputs : m.inputs ≡ part.inputs
  pub outputs : m.outputs ≡ part.outputs
  pub wires : Begins part.wires m.wires
  pub regs : Begins part.regs m.regs
  pub arrays : Begins part.arrays m.arrays
  pub assigns : Begins part.assigns m.assigns
  pub updates : Begins part.updates m.updates

-- in every netlist that includes the part, a fact holds of each valuation
abbrev pub InEach : Netlist → (Netlist → Snapshot → Type 0) → Type 0
InEach part P = (m : Netlist) (s : Snapshot) → Includes m part → IsSettled m s → P m s

-- in every netlist that includes the part, a fact holds of each clock edge
abbrev pub AtEachEdge : Netlist → (Snapshot → Contents → Type 0) → Type 0
AtEachEdge part P = (m : Netlist) (s : Snapshot) (next : Contents) → Includes m part → IsNext m s next → P s next
