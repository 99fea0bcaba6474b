-- When assigns depend on themselves, and orders in which they do not.
use Rattle.std.specs.Prelude.{◌≡◌, ℕ, suc, ◌<◌, List, length, slice_get, Option, Some, None, Contains}
use Rattle.std.specs.Option.{option_and_then}
use Rattle.wiring.specs.declared.right.Atom.{Atom}
use Rattle.wiring.specs.declared.right.Atom.TheVariants as atom
use Rattle.wiring.specs.declared.right.Right.{Right}
use Rattle.wiring.specs.declared.netlist.Net.{Net}
use Rattle.wiring.specs.declared.netlist.Assign.{Assign}
use Rattle.wiring.specs.declared.order.OrderFault.{OrderFault}
use Rattle.wiring.specs.declared.order.OrderFault.TheVariants.{Cycle, OutOfMemory}
use Rattle.wiring.specs.declared.drivers.Drivers.{Drivers}
use Rattle.wiring.specs.Tables.{driver_of}
use Rattle.wiring.specs.Rights.{operands, nets_of}

-- the assign at j drives a net that the assign at k reads
pub record Feeds (assigns : List Assign) (j k : ℕ) : Type 0 where
  pub from : Assign
  pub to : Assign
  pub from_at : slice_get assigns j ≡ Some from
  pub to_at : slice_get assigns k ≡ Some to
  pub read : Contains (nets_of to.right) from.target

-- the assign at k depends on that at j, over one or more steps
pub data DependsOn (assigns : List Assign) : ℕ → ℕ → Type 0 where
  directly : {j k : ℕ} → Feeds assigns j k → DependsOn assigns k j
  through : {i j k : ℕ} → Feeds assigns j k → DependsOn assigns j i → DependsOn assigns k i

-- no assign depends on itself
abbrev pub IsAcyclic : List Assign → Type 0
IsAcyclic assigns = (k : ℕ) → DependsOn assigns k k → ⊥

-- each assign is in the order once, after those that feed it
pub record IsEvaluationOrder (assigns : List Assign) (order : List ℕ) : Type 0 where
  pub within : (p k : ℕ) → slice_get order p ≡ Some k → k < length assigns
  pub once : (p q k : ℕ) → slice_get order p ≡ Some k → slice_get order q ≡ Some k → p ≡ q
  pub all : (k : ℕ) → k < length assigns → (p : ℕ) × (slice_get order p ≡ Some k)
  pub behind : (p j k : ℕ) → slice_get order p ≡ Some k → Feeds assigns j k → (q : ℕ) × (q < p) × (slice_get order q ≡ Some j)

-- the net at a place of a right side
abbrev pub net_in : Atom Net → Option Net
net_in (atom.Net n) = Some n
net_in (atom.Constant c) = None

abbrev pub reads_at : Right Net ℕ → ℕ → Option Net
reads_at r place = option_and_then net_in (slice_get (operands r) place)

abbrev pub driver_at_of : Drivers → Right Net ℕ → ℕ → Option ℕ
driver_at_of d r place = option_and_then (driver_of d) (reads_at r place)

-- the fault's cause
abbrev pub IsCause : List Assign → OrderFault → Type 0
IsCause assigns (Cycle k) = DependsOn assigns k k
IsCause assigns OutOfMemory = Unit {0}
