-- One clock of a netlist.
use Rattle.std.specs.Prelude.{ℕ, Bool, if◌then◌else◌, List, ◌∷◌}
use Rattle.wiring.specs.Netlist.{Netlist}
use Rattle.wiring.specs.Snapshot.{Contents, Snapshot, SnapshotOf, IsInRange, StopsAt, IsNext}

-- what the ports are given in a clock
pub record Clock : Type 0 where
  pub reset : Bool
  pub enable : Bool
  pub dins : List ℕ

abbrev pub bit : Bool → ℕ
bit b = if b then 1 else 0

-- the values of the inputs; without the port en it is not looked at
abbrev pub given : Netlist → Clock → List ℕ
given m c = bit c.reset ∷ (if m.enable then bit c.enable ∷ c.dins else c.dins)

-- the clock with these inputs goes from the old contents to the new ones, and s is its snapshot before the edge
pub record Steps (m : Netlist) (old : Contents) (inputs : List ℕ) (s : Snapshot) (new : Contents) : Type 0 where
  pub snapshot : SnapshotOf m old inputs s
  pub in_range : IsInRange m s
  pub next : IsNext m s new

-- the clock with these inputs stops, with the first access that is outside its array
pub record Stops (m : Netlist) (old : Contents) (inputs : List ℕ) (array index : ℕ) : Type 0 where
  pub shot : Snapshot
  pub snapshot : SnapshotOf m old inputs shot
  pub stops : StopsAt m shot array index
