-- Used by private functions only.
-- A tree of the nodes that are reached from a root, and flow pushed along it.
use Rattle.std.specs.Prelude.{◌≡◌, ◌≢◌, ℕ, pos, ◌≤ℤ◌, ◌+ℤ◌, ◌+◌, ◌-◌, ◌*◌, ◌^◌, ◌<◌, ◌≤◌, ◌==◌, nat_lt, if◌then◌else◌, List, length, slice_index, All, count_by, ◌⊎◌}
use Rattle.raster_delay.specs.Network.{constraint_at, inflow, outflow, Holds, IsTight, IsComplementary}
use Rattle.raster_delay.specs.Delays.{IsSmall}
use Rattle.raster_delay.specs.declared.network.Constraint.{Constraint}
use Rattle.flow_dual.specs.declared.tree.Tree.{Tree}

-- node u was reached before node v
abbrev pub IsBefore : List ℕ → ℕ → ℕ → Type 0
IsBefore order u v = (0 < slice_index order u) × (slice_index order u < slice_index order v)

-- constraint i leads from a node reached before to v: forward, or backward where there is flow to take back
abbrev pub IsLink : List Constraint → List ℕ → List ℕ → ℕ → ℕ → Type 0
IsLink cs flow order i v =
    (((constraint_at cs i).target ≡ v) × IsBefore order (constraint_at cs i).source v)
    ⊎ (((constraint_at cs i).source ≡ v) × (0 < slice_index flow i) × IsBefore order (constraint_at cs i).target v)

-- a node of order above 0 is reached, and but for the root it hangs on the constraint that is its parent
pub record IsTree (cs : List Constraint) (flow order parent : List ℕ) (root : ℕ) : Type 0 where
  pub root_reached : 0 < slice_index order root
  pub parents : (v : ℕ) → v ≢ root → 0 < slice_index order v → slice_index parent v < length cs
  pub links : (v : ℕ) → v ≢ root → 0 < slice_index order v → IsLink cs flow order (slice_index parent v) v

-- the flow brings so much more to one node, and takes so much more from another
abbrev pub Moves : List Constraint → List ℕ → List ℕ → ℕ → ℕ → ℕ → Type 0
Moves cs old new from to amount = (v : ℕ) →
    inflow cs new v + outflow cs old v + (if from == v then amount else 0) ≡ inflow cs old v + outflow cs new v + (if to == v then amount else 0)

-- the flow changes only on the parents of nodes that were reached no later than a node
abbrev pub ChangesOnlyOn : List ℕ → List ℕ → ℕ → ℕ → List ℕ → List ℕ → Type 0
ChangesOnlyOn order parent root node old new = (i : ℕ) → slice_index new i ≢ slice_index old i →
    (v : ℕ) × (v ≢ root) × (0 < slice_index order v) × (slice_index order v ≤ slice_index order node) × (slice_index parent v ≡ i)

-- each parent is tight
abbrev pub HangsTight : List Constraint → List ℕ → List ℕ → List ℕ → ℕ → Type 0
HangsTight cs p order parent root = (v : ℕ) → v ≢ root → 0 < slice_index order v → IsTight p (constraint_at cs (slice_index parent v))

-- constraint i leads on from no node that is reached to one that is not, and brings no flow from one that is not
pub record IsClosedAt (cs : List Constraint) (p flow order : List ℕ) (i : ℕ) : Type 0 where
  pub forward : 0 < slice_index order (constraint_at cs i).source → IsTight p (constraint_at cs i) → 0 < slice_index order (constraint_at cs i).target
  pub backward : 0 < slice_index order (constraint_at cs i).target → 0 < slice_index flow i → 0 < slice_index order (constraint_at cs i).source

abbrev pub IsClosed : List Constraint → List ℕ → List ℕ → List ℕ → Type 0
IsClosed cs p flow order = (i : ℕ) → i < length cs → IsClosedAt cs p flow order i

-- this many nodes are reached, and no order is above their number
pub record CountsReached (order : List ℕ) (count : ℕ) : Type 0 where
  pub count_is : count ≡ count_by (λ o. nat_lt 0 o) order
  pub bound : (v : ℕ) → slice_index order v ≤ count

abbrev pub AreSmall : List ℕ → Type 0
AreSmall p = (v : ℕ) → slice_index p v < 2 ^ 60

-- Constraints of small costs between `count` nodes.
pub record IsNetwork (count : ℕ) (cs : List Constraint) : Type 0 where
  -- each leads from a node
  pub sources : All (λ c. c.source < count) cs
  -- each leads to a node
  pub targets : All (λ c. c.target < count) cs
  -- each has a small cost
  pub costs : All IsSmall cs

-- A constraint of a small cost between nodes of small numbers.
pub record IsAmong (p : List ℕ) (c : Constraint) : Type 0 where
  -- it leads from a node
  pub source : c.source < length p
  -- it leads to a node
  pub target : c.target < length p
  -- its cost is small
  pub cost : IsSmall c
  -- the numbers of the nodes are small
  pub numbers : AreSmall p

-- Small numbers of nodes that keep the constraints between them.
pub record IsFeasible (cs : List Constraint) (p : List ℕ) : Type 0 where
  -- each constraint leads from a node
  pub sources : All (λ c. c.source < length p) cs
  -- each leads to a node
  pub targets : All (λ c. c.target < length p) cs
  -- each has a small cost
  pub costs : All IsSmall cs
  -- the numbers are small
  pub numbers : AreSmall p
  -- they keep each constraint
  pub holds : All (Holds p) cs

-- numbers that keep the constraints, which are between their nodes, and a flow only on tight constraints
pub record IsState (cs : List Constraint) (p flow : List ℕ) : Type 0 where
  pub one_each : length flow ≡ length cs
  pub sources : All (λ c. c.source < length p) cs
  pub targets : All (λ c. c.target < length p) cs
  pub costs : All IsSmall cs
  pub small : AreSmall p
  pub holds : All (Holds p) cs
  pub carries : IsComplementary cs flow p

-- a tree of tight constraints with this many nodes
pub record IsSearch (cs : List Constraint) (p flow order parent : List ℕ) (root count : ℕ) : Type 0 where
  pub orders : length order ≡ length p
  pub parents : length parent ≡ length p
  pub tree : IsTree cs flow order parent root
  pub tight : HangsTight cs p order parent root
  pub counted : CountsReached order count

-- A search in progress, in a network whose numbers and flow are a state.
pub record IsExplored (cs : List Constraint) (p flow : List ℕ) (t : Tree) : Type 0 where
  -- the numbers keep the constraints, and the flow is only on tight ones
  pub state : IsState cs p flow
  -- what is reached is a tree of tight constraints
  pub search : IsSearch cs p flow t.order.items t.parent.items t.root t.reached

-- A search goes on.
pub record Explores (cs : List Constraint) (p flow : List ℕ) (old new : Tree) : Type 0 where
  -- from the same root
  pub root : new.root ≡ old.root
  -- what is reached is a tree of tight constraints
  pub search : IsSearch cs p flow new.order.items new.parent.items new.root new.reached
  -- no node is lost
  pub more : old.reached ≤ new.reached

-- A search loses no node.
pub record KeepsNodes (old new : Tree) : Type 0 where
  -- its root stays
  pub root : new.root ≡ old.root
  -- it is among as many nodes
  pub orders : length new.order.items ≡ length old.order.items
  -- each of them has a parent
  pub parents : length new.parent.items ≡ length old.parent.items
  -- no fewer nodes are reached
  pub more : old.reached ≤ new.reached
  -- where no more are, their orders stay
  pub same : new.reached ≡ old.reached → new.order.items ≡ old.order.items

-- All that is reached from a root.
pub record Reaches (cs : List Constraint) (p flow : List ℕ) (from : ℕ) (t : Tree) : Type 0 where
  -- it begins there
  pub root : t.root ≡ from
  -- an order and a parent for each node
  pub sizes : (length t.order.items ≡ length p) × (length t.parent.items ≡ length p)
  -- it is a tree
  pub tree : IsTree cs flow t.order.items t.parent.items from
  -- each parent is tight
  pub tight : HangsTight cs p t.order.items t.parent.items from
  -- no constraint leads on
  pub closed : IsClosed cs p flow t.order.items
  -- no order is above the number of nodes
  pub bound : (v : ℕ) → slice_index t.order.items v ≤ length p

-- A node to which a tree leads from its root.
pub record IsOnTree (cs : List Constraint) (flow order parent : List ℕ) (root node : ℕ) : Type 0 where
  -- there is a flow on each constraint
  pub sizes : length flow ≡ length cs
  -- there is a parent of each node
  pub parents : length parent ≡ length order
  -- the parents are a tree
  pub tree : IsTree cs flow order parent root
  -- the node is reached
  pub reached : 0 < slice_index order node

-- Some flow is pushed along a tree from its root to a node.
pub record Pushes (cs : List Constraint) (order parent : List ℕ) (root node : ℕ) (old new : List ℕ) (limit amount : ℕ) : Type 0 where
  -- it is not nothing
  pub some : 0 < amount
  -- it is no more than the limit
  pub most : amount ≤ limit
  -- it is taken from the root and brought to the node
  pub moves : Moves cs old new root node amount
  -- the flow changes only on the way
  pub changes : ChangesOnlyOn order parent root node old new
  -- on no constraint it grows by more
  pub grows : (i : ℕ) → slice_index new i ≤ slice_index old i + amount

-- The numbers of the nodes that are reached go up by `by`.
pub record Shifts (order old new : List ℕ) (by : ℕ) : Type 0 where
  -- those that are reached
  pub reached : (v : ℕ) → 0 < slice_index order v → slice_index new v ≡ slice_index old v + by
  -- the others stay
  pub others : (v : ℕ) → slice_index order v ≡ 0 → slice_index new v ≡ slice_index old v

-- The numbers of the nodes that are not reached go down by `by`.
pub record Sinks (order old new : List ℕ) (by : ℕ) : Type 0 where
  -- those that are reached stay
  pub reached : (v : ℕ) → 0 < slice_index order v → slice_index new v ≡ slice_index old v
  -- the others
  pub others : (v : ℕ) → slice_index order v ≡ 0 → slice_index new v ≡ slice_index old v - by

-- Numbers and a flow that keep the constraints, within limits that grow with each image before this one.
pub record IsStateAfter (cs : List Constraint) (p flow : List ℕ) (image : ℕ) : Type 0 where
  -- there is a flow on each constraint
  pub flows : length flow ≡ length cs
  -- each number is at most 2^41, and 2^36 more for each image
  pub numbers : (v : ℕ) → slice_index p v ≤ 2 ^ 41 + image * 2 ^ 36
  -- each flow is at most 2^8 for each image
  pub amounts : (i : ℕ) → slice_index flow i ≤ image * 2 ^ 8
  -- the numbers keep each constraint
  pub holds : All (Holds p) cs
  -- the flow is only on tight constraints
  pub carries : IsComplementary cs flow p

-- no tight constraint leads from a node that is reached to one that is not
abbrev pub StopsTight : List Constraint → List ℕ → List ℕ → Type 0
StopsTight cs p order = (i : ℕ) → i < length cs → 0 < slice_index order (constraint_at cs i).source → IsTight p (constraint_at cs i) → 0 < slice_index order (constraint_at cs i).target

-- a constraint that leads from a node that is reached to one that is not has `by` to spare
abbrev pub LeavesRoom : List Constraint → List ℕ → List ℕ → ℕ → Type 0
LeavesRoom cs p order by = (i : ℕ) → i < length cs → 0 < slice_index order (constraint_at cs i).source → slice_index order (constraint_at cs i).target ≡ 0
    → (pos (slice_index p (constraint_at cs i).source) +ℤ (constraint_at cs i).cost +ℤ pos by) ≤ℤ pos (slice_index p (constraint_at cs i).target)

-- A number above 0 that the constraints have to spare.
pub record IsSlack (cs : List Constraint) (p order : List ℕ) (by : ℕ) : Type 0 where
  -- it is not nothing
  pub positive : 0 < by
  -- each constraint that leads from a node that is reached to one that is not has it to spare
  pub least : LeavesRoom cs p order by

-- The least numbers that keep the constraints and suit a flow.
pub record IsSettled (cs : List Constraint) (flow p : List ℕ) : Type 0 where
  -- that of node 0 is 0
  pub zero : slice_index p 0 ≡ 0
  -- none is great
  pub near : (v : ℕ) → slice_index p v < 2 ^ 34
  -- they keep each constraint
  pub holds : All (Holds p) cs
  -- each constraint with flow is tight
  pub carries : IsComplementary cs flow p
  -- no others that do are less at any node
  pub least : (d : List ℕ) → All (Holds d) cs → IsComplementary cs flow d
      → (v : ℕ) → v < length p → slice_index p v ≤ slice_index d v

-- At most 2^14 constraints, and a flow of at most 2^32 on each.
pub record IsSmallFlow (cs : List Constraint) (flow : List ℕ) : Type 0 where
  -- there is a flow on each
  pub flows : length flow ≡ length cs
  -- they are few
  pub count : length cs ≤ 2 ^ 14
  -- none is great
  pub amounts : (i : ℕ) → slice_index flow i ≤ 2 ^ 32

-- A sum at each of `count` nodes, of at most 2^46.
pub record AreSums (count : ℕ) (sums : List ℕ) : Type 0 where
  -- there is one for each
  pub length_is : length sums ≡ count
  -- none is great
  pub near : (v : ℕ) → slice_index sums v ≤ 2 ^ 46

-- They are these sums.
pub record AreSumsOf (count : ℕ) (of_node : ℕ → ℕ) (sums : List ℕ) : Type 0 where
  -- there is one at each node, of at most 2^46
  pub sums_are : AreSums count sums
  -- each is that of its node
  pub value : (v : ℕ) → slice_index sums v ≡ of_node v

-- constraint i has no cost, and there is one of that number
abbrev pub IsHold : List Constraint → ℕ → Type 0
IsHold cs i = (i < length cs) × ((constraint_at cs i).cost ≡ pos 0)

-- to each node but 0 leads a constraint of no cost from an earlier one
abbrev pub IsRooted : List Constraint → ℕ → Type 0
IsRooted cs n = (v : ℕ) → 0 < v → v < n
    → (i : ℕ) × (i < length cs) × ((constraint_at cs i).target ≡ v) × ((constraint_at cs i).source < v) × ((constraint_at cs i).cost ≡ pos 0)
