-- The reads of a body that are known by their places among all its reads.
use Rattle.std.specs.Prelude.{◌≡◌, ◌⊎◌, ℕ, if◌then◌else◌, List, map, slice_get, Some, Contains}
use Rattle.dk_base.specs.declared.ty.Ty.{Ty}
use Rattle.wiring.specs.declared.netlist.Net.{Net}
use Rattle.pointwise_ir.specs.declared.expr.Edge.TheVariants.{Zero, Clamp}
use Rattle.edge_select.specs.declared.step.Step.{Step}
use Rattle.circuit.specs.declared.known.StepKey.{StepKey}
use Rattle.circuit.specs.declared.known.ReadKey.{ReadKey}
use Rattle.circuit.specs.Leaves.{LeafRead}

-- the step of a key
abbrev pub step_of : StepKey → Step
step_of k = record { edge = if k.clamped then Clamp else Zero; dx = k.dx; dy = k.dy }

-- the read of a key
abbrev pub leaf_of : ReadKey → LeafRead
leaf_of k = record { image = k.image; steps = map step_of k.steps.items }

-- a read, and its place among the reads of a body
pub record PlacedRead : Type 0 where
  pub leaf : LeafRead
  pub place : ℕ

abbrev pub placed_at : LeafRead → (place : ℕ) → PlacedRead
placed_at leaf place = record { leaf = leaf; place = place }

-- those that a map of keys has
abbrev pub placed_in : List (ReadKey × ℕ) → List PlacedRead
placed_in es = map (λ e. placed_at (leaf_of e.0) e.1) es

-- nothing is known but what was known before, and one more
abbrev pub IsAdded : (new old : List PlacedRead) → PlacedRead → Type 0
IsAdded new old added = (r : PlacedRead) → Contains new r → Contains old r ⊎ (r ≡ added)

-- each known read is at its place among these
abbrev pub ArePlaced : List LeafRead → List PlacedRead → Type 0
ArePlaced leaves known = (r : PlacedRead) → Contains known r → slice_get leaves r.place ≡ Some r.leaf

-- the net is that of a known read that is equal to the leaf
pub record IsKnownNet (reads : List (Ty × Net)) (known : List PlacedRead) (leaf : LeafRead) (net : Ty × Net) : Type 0 where
  pub place : ℕ
  pub placed : Contains known (placed_at leaf place)
  pub there : slice_get reads place ≡ Some net
