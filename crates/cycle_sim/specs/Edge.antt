-- Accesses and the clock edge, over slots.
use Rattle.std.specs.Prelude.{◌≡◌, ℕ, ◌<◌, ◌≤◌, List, [], ◌∷◌, slice_index, slice_set, slice_get, Some, take, All}
use Rattle.wiring.specs.Rights.{atom_value}
use Rattle.cycle_sim.specs.declared.edge.Access.{Access}
use Rattle.cycle_sim.specs.declared.edge.IndexRange.{IndexRange}
use Rattle.cycle_sim.specs.declared.edge.Edge.{Edge}
use Rattle.cycle_sim.specs.declared.edge.Edge.TheVariants.{Set, Put}
use Rattle.cycle_sim.specs.Slots.{depth_at, put_at, slot, rename_atom}
use Rattle.wiring.specs.declared.netlist.Net.{Net}
use Rattle.wiring.specs.declared.netlist.Update.{Update}
use Rattle.wiring.specs.declared.netlist.Update.TheVariants as update
use Rattle.wiring.specs.Netlist.{Netlist}
use Rattle.wiring.specs.declared.netlist.Assign.{Assign}
use Rattle.wiring.specs.Snapshot.{right_accesses}
use Rattle.wiring.specs.declared.right.Atom.{Atom}

abbrev pub slot_value : List ℕ → Atom ℕ → ℕ
slot_value values a = atom_value (λ n. slice_index values n) a

abbrev pub IsAccessInside : List (List ℕ) → List ℕ → Access → Type 0
IsAccessInside arrays values access = slot_value values access.index < depth_at arrays access.array

-- the first access outside its array is this one
pub record IsFirstOutside (arrays : List (List ℕ)) (values : List ℕ) (accesses : List Access) (range : IndexRange) : Type 0 where
  pub place : ℕ
  pub access : Access
  pub at : slice_get accesses place ≡ Some access
  pub inside : All (IsAccessInside arrays values) (take place accesses)
  pub array : access.array ≡ range.array
  pub index : slot_value values access.index ≡ range.index
  pub outside : depth_at arrays range.array ≤ range.index

abbrev pub run_sets : List ℕ → List Edge → List ℕ → List ℕ
run_sets values [] regs = regs
run_sets values (Set r a ∷ edges) regs = run_sets values edges (slice_set regs r (slot_value values a))
run_sets values (Put m i a ∷ edges) regs = run_sets values edges regs

abbrev pub run_puts : List ℕ → List Edge → List (List ℕ) → List (List ℕ)
run_puts values [] arrays = arrays
run_puts values (Set r a ∷ edges) arrays = run_puts values edges arrays
run_puts values (Put m i a ∷ edges) arrays = run_puts values edges (put_at arrays m (slot_value values i) (slot_value values a))

-- each register is there, and each word
abbrev pub EdgesAreSafe : List ℕ → List Edge → ℕ → List (List ℕ) → Type 0
EdgesAreSafe values [] count arrays = Unit {0}
EdgesAreSafe values (Set r a ∷ edges) count arrays = (r < count) × EdgesAreSafe values edges count arrays
EdgesAreSafe values (Put m i a ∷ edges) count arrays = (slot_value values i < depth_at arrays m) × EdgesAreSafe values edges count (put_at arrays m (slot_value values i) (slot_value values a))

-- the access and the edge of a netlist's access and update
abbrev pub access : Netlist → ℕ × Atom Net → Access
access m p = record { array = p.0; index = rename_atom (slot m) p.1 }

abbrev pub edge : Netlist → Update → Edge
edge m (update.Set r a) = Set r (rename_atom (slot m) a)
edge m (update.Put x i a) = Put x (rename_atom (slot m) i) (rename_atom (slot m) a)

abbrev pub assign_accesses_of : Assign → List (ℕ × Atom Net)
assign_accesses_of a = right_accesses a.right
