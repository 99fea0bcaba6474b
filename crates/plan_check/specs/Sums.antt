-- Used by private functions only.
-- What the lines of a report sum to: image lines to bits, and flow lines, each on the constraint that it names. Laws lead from there to the bits of the delays, and to a flow on all constraints.
use Rattle.std.specs.Prelude.{◌≡◌, ℕ, ℤ, pos, neg_ℤ, ◌+◌, ◌<◌, ◌≤◌, ◌^◌, ◌==◌, if◌then◌else◌, ◌-ℤ◌, ◌*ℤ◌, ◌≤ℤ◌, ◌*◌, List, length, map, slice_index, sum_by, All}
use Rattle.dk_base.specs.declared.TheConstants.{MAX_SIDE, MAX_AGE, MAX_KEPT_IMAGES}
use Rattle.raster_delay.specs.declared.network.Constraint.{Constraint}
use Rattle.raster_delay.specs.declared.placed.PlacedRead.{PlacedRead}
use Rattle.raster_delay.specs.Network.{inflow, outflow, worth}
use Rattle.raster_delay.specs.Delays.{IsSmall, hold, start, read, keep}
use Rattle.raster_delay.specs.Systems.{System, image_count, nodes, coefficient_in}
use Rattle.report_text.specs.declared.report.ImageLine.{ImageLine}
use Rattle.report_text.specs.declared.report.FlowLine.{FlowLine}
use Rattle.report_text.specs.declared.report.FlowLine.TheVariants.{Hold, Start, Read, Keep}
use Rattle.plan_check.specs.Flows.{amount_of}
use Rattle.report_text.specs.Reports.{Ascend}
use Rattle.plan_check.specs.Holding.{HasConstraint, read_at}

-- the sum of width times printed depth
abbrev pub bits_of_lines : List ImageLine → ℕ
bits_of_lines images = sum_by (λ i. i.width * i.depth) images

-- what makes the flow line of a constraint, kind by kind
abbrev pub hold_maker : ℕ → ℕ → FlowLine
hold_maker k n = Hold k n

abbrev pub start_maker : ℕ → ℕ → FlowLine
start_maker k n = Start k n

abbrev pub read_maker : PlacedRead → ℕ → FlowLine
read_maker r n = Read r.f r.g r.dx r.dy n

abbrev pub keep_maker : PlacedRead → ℕ → FlowLine
keep_maker r n = Keep r.f r.g r.dx r.dy n

-- the constraint that a flow line names
abbrev pub constraint_of : System → FlowLine → Constraint
constraint_of s (Hold g n) = hold s.stencils.inputs (image_count s) g
constraint_of s (Start f n) = start s.stencils.inputs f
constraint_of s (Read f g dx dy n) = read s.stencils.width s.age s.stencils.inputs (read_at f g dx dy)
constraint_of s (Keep f g dx dy n) = keep s.stencils.width s.stencils.inputs (image_count s) (read_at f g dx dy)

-- the constraints that carry flow, and how much
abbrev pub carriers : System → List FlowLine → List Constraint
carriers s flow = map (constraint_of s) flow

abbrev pub amounts : List FlowLine → List ℕ
amounts flow = map amount_of flow

-- what these lines bring to a node
abbrev pub inflow_of : System → List FlowLine → (node : ℕ) → ℕ
inflow_of s lines v = inflow (carriers s lines) (amounts lines) v

-- what these lines take from a node
abbrev pub outflow_of : System → List FlowLine → (node : ℕ) → ℕ
outflow_of s lines v = outflow (carriers s lines) (amounts lines) v

-- at each node what is brought less what is taken is the coefficient
abbrev pub AreEven : System → (brought taken : ℕ → ℕ) → Type 0
AreEven s brought taken = (v : ℕ) → v < nodes s → pos (brought v) -ℤ pos (taken v) ≡ coefficient_in s v

-- Flow lines that can be summed.
pub record AreFlowLines (s : System) (lines : List FlowLine) : Type 0 where
  -- each names a constraint
  pub constraints : All (HasConstraint s) lines
  -- they are in order
  pub ascending : Ascend lines
  -- so few that their sums fit 128 bits
  pub few : length lines ≤ 2 ^ 32

-- A system whose numbers are within the limits of programs.
pub record IsLimited (s : System) : Type 0 where
  -- the columns of its frame
  pub row : s.stencils.width ≤ MAX_SIDE
  -- the age that it asks of live reads
  pub age : s.age ≤ MAX_AGE
  -- its inputs are kept images
  pub inputs : s.stencils.inputs ≤ image_count s
  -- its kept images
  pub images : image_count s ≤ MAX_KEPT_IMAGES

-- A constraint between nodes of the system, of a small cost.
pub record IsBounded (s : System) (c : Constraint) : Type 0 where
  -- it leads from a node
  pub source : c.source < nodes s
  -- it leads to a node
  pub target : c.target < nodes s
  -- its cost is small
  pub cost : IsSmall c

-- Sums at the nodes of a system, of what is brought and of what is taken, each at most `most`.
pub record AreSums (s : System) (most : ℕ) (brought taken : List ℕ) : Type 0 where
  -- what is brought has a place for each node
  pub some_brought : nodes s ≤ length brought
  -- and so has what is taken
  pub some_taken : nodes s ≤ length taken
  -- no node is brought more
  pub few_brought : (v : ℕ) → slice_index brought v ≤ most
  -- no node gives more
  pub few_taken : (v : ℕ) → slice_index taken v ≤ most

-- An amount is added to the sum of one node.
pub record AddsAt (old new : List ℕ) (node amount : ℕ) : Type 0 where
  -- the sum of this node grows by the amount, and the others stay
  pub value : (v : ℕ) → slice_index new v ≡ slice_index old v + (if node == v then amount else 0)
  -- no sum grows by more than 2^64
  pub most : (v : ℕ) → slice_index new v ≤ slice_index old v + 2 ^ 64

-- The sums of some flow lines at the nodes of a system.
pub record Tallies (s : System) (lines : List FlowLine) (into out : List ℕ) : Type 0 where
  -- what they bring to each node
  pub brought : (v : ℕ) → slice_index into v ≡ inflow_of s lines v
  -- what they take from each node
  pub taken : (v : ℕ) → slice_index out v ≡ outflow_of s lines v
  -- they fit 128 bits
  pub sums : AreSums s (2 ^ 100) into out

-- A small cost times an amount.
pub record IsPrice (cost : ℤ) (amount : ℕ) (price : ℤ) : Type 0 where
  -- it is the product
  pub value : price ≡ cost *ℤ pos amount
  -- which is at least -2^89
  pub least : neg_ℤ (pos (2 ^ 89)) ≤ℤ price
  -- and at most 2^89
  pub most : price ≤ℤ pos (2 ^ 89)

-- at each node what flows in less what flows out is the coefficient, and the sum of cost times flow is the bits
pub record SumsHold (s : System) (lines : List FlowLine) (bits : ℕ) : Type 0 where
  pub balanced : AreEven s (inflow_of s lines) (outflow_of s lines)
  pub worth_is : worth (carriers s lines) (amounts lines) ≡ pos bits
