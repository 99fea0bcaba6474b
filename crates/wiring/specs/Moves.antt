-- Used by private functions only.
-- The search in depth for an order of evaluation: its state and its moves.
use Rattle.std.specs.Prelude.{◌≡◌, ℕ, suc, ◌<◌, ◌+◌, ◌-◌, ◌*◌, List, [], ◌∷◌, ◌++◌, take, length, slice_set, slice_get, Some, min, ◌^◌, ◌≢◌, Option}
use Rattle.wiring.specs.declared.order.Mark.{Mark}
use Rattle.wiring.specs.declared.order.Mark.TheVariants.{New, Open, Done}
use Rattle.wiring.specs.declared.order.Visit.{Visit}
use Rattle.wiring.specs.declared.order.Search.{Search}
use Rattle.wiring.specs.declared.netlist.Assign.{Assign}
use Rattle.wiring.specs.declared.drivers.Drivers.{Drivers}
use Rattle.wiring.specs.Order.{Feeds, reads_at, driver_at_of}

-- the assign at k reads what the assign at j drives, at this place
pub record FeedsAt (assigns : List Assign) (j k place : ℕ) : Type 0 where
  pub from : Assign
  pub to : Assign
  pub from_at : slice_get assigns j ≡ Some from
  pub to_at : slice_get assigns k ≡ Some to
  pub read : reads_at to.right place ≡ Some from.target

-- what a search in depth keeps: the path is of open assigns, each fed by the next, and the order is of those that are done
pub record IsSearch (assigns : List Assign) (marks : List Mark) (path : List Visit) (order : List ℕ) : Type 0 where
  pub size : length marks ≡ length assigns
  pub path_open : (i : ℕ) (v : Visit) → slice_get path i ≡ Some v → slice_get marks v.assign ≡ Some Open
  pub path_once : (i j : ℕ) (v w : Visit) → slice_get path i ≡ Some v → slice_get path j ≡ Some w → v.assign ≡ w.assign → i ≡ j
  pub open_path : (k : ℕ) → slice_get marks k ≡ Some Open → (i : ℕ) × (v : Visit) × (slice_get path i ≡ Some v) × (v.assign ≡ k)
  pub chain : (i : ℕ) (v w : Visit) → slice_get path i ≡ Some v → slice_get path (suc i) ≡ Some w → Feeds assigns w.assign v.assign
  pub looked : (i : ℕ) (v : Visit) (j place : ℕ) → slice_get path i ≡ Some v → place < v.looked → FeedsAt assigns j v.assign place → slice_get marks j ≡ Some Done
  pub order_done : (p k : ℕ) → slice_get order p ≡ Some k → slice_get marks k ≡ Some Done
  pub done_order : (k : ℕ) → slice_get marks k ≡ Some Done → (p : ℕ) × (slice_get order p ≡ Some k)
  pub order_once : (p q k : ℕ) → slice_get order p ≡ Some k → slice_get order q ≡ Some k → p ≡ q
  pub behind : (p j k : ℕ) → slice_get order p ≡ Some k → Feeds assigns j k → (q : ℕ) × (q < p) × (slice_get order q ≡ Some j)

-- a search whose marks, path and order are sound
abbrev pub IsSearchOf : List Assign → Search → Type 0
IsSearchOf assigns search = IsSearch assigns search.marks.items search.path.items search.order.items

pub record Enters (old new : Search) (assign : ℕ) : Type 0 where
  pub marks : new.marks.items ≡ slice_set old.marks.items assign Open
  pub path : new.path.items ≡ old.path.items ++ (record { assign = assign; looked = 0 }) ∷ []
  pub order : new.order.items ≡ old.order.items

pub record Leaves (old new : Search) (assign : ℕ) : Type 0 where
  pub marks : new.marks.items ≡ slice_set old.marks.items assign Done
  pub path : new.path.items ≡ take (length old.path.items - 1) old.path.items
  pub order : new.order.items ≡ old.order.items ++ assign ∷ []

pub record Looks (old new : Search) (top : ℕ) (visit : Visit) : Type 0 where
  pub marks : new.marks.items ≡ old.marks.items
  pub path : new.path.items ≡ slice_set old.path.items top (record { assign = visit.assign; looked = min (visit.looked + 1) (2 ^ 64 - 1) })
  pub order : new.order.items ≡ old.order.items

-- how far the search still has to go
abbrev pub new_count : List Mark → ℕ
new_count [] = 0
new_count (New ∷ marks) = suc (new_count marks)
new_count (Open ∷ marks) = new_count marks
new_count (Done ∷ marks) = new_count marks

abbrev pub path_weight : List Visit → ℕ
path_weight [] = 0
path_weight (v ∷ path) = suc (3 - v.looked) + path_weight path

abbrev pub weight : Search → ℕ
weight s = 5 * new_count s.marks.items + path_weight s.path.items

-- an assign that the search has come to stays so
abbrev pub KeepsMarks : List Mark → List Mark → Type 0
KeepsMarks old new = (k : ℕ) → slice_get old k ≢ Some New → slice_get new k ≢ Some New

-- what drives a place of the assign at k
abbrev pub DriverIs : List Assign → Drivers → ℕ → ℕ → Option ℕ → Type 0
DriverIs assigns d k place driver = (a : Assign) → slice_get assigns k ≡ Some a → driver ≡ driver_at_of d a.right place
