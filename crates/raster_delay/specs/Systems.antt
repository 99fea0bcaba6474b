-- What the definitions on delays say of a system, which is some stencils with the age that is asked of each read.
use Rattle.std.specs.Prelude.{◌≡◌, ℕ, ℤ, ◌<◌, ◌≤◌, ◌^◌, List, length, map, slice_index, All}
use Rattle.dk_base.specs.declared.TheConstants.{MAX_AGE}
use Rattle.dk_base.specs.Stencils.{Stencils, IsStencils}
use Rattle.raster_delay.specs.Placing.{widths_of, reads_of}
use Rattle.raster_delay.specs.Network.{Holds, IsFlow, Buffer, worth, coefficient}
use Rattle.raster_delay.specs.Delays.{AreBounded, AreCausal, AreNear, AreNumbersOf, begin_count, begin_of, depth_of, bits_of, constraints_of, buffers_of, end_of, holds_of, keep, node_count, read}
use Rattle.raster_delay.specs.declared.network.Constraint.{Constraint}
use Rattle.raster_delay.specs.declared.placed.PlacedRead.{PlacedRead}

pub record System : Type 0 where
  pub stencils : Stencils
  pub age : ℕ

pub record IsSystem (s : System) : Type 0 where
  pub stencils : IsStencils s.stencils
  pub age_limit : s.age ≤ MAX_AGE

-- how many images are kept
abbrev pub image_count : System → ℕ
image_count s = length s.stencils.images

abbrev pub widths : System → List ℕ
widths s = widths_of s.stencils.images

-- the live reads, with the places of their images
abbrev pub placed_reads : System → List PlacedRead
placed_reads s = reads_of s.stencils.images s.stencils.reads

-- No read comes before its pixel: one delay for each kept image, 0 for each input, and the age of each live read is at least the age that `compile` was asked for.
abbrev pub IsCausal : System → List ℕ → Type 0
IsCausal s d = AreCausal s.stencils.width s.age s.stencils.inputs (image_count s) (placed_reads s) d

-- the greatest age among the live reads that read image g, 0 without any
abbrev pub depth : System → List ℕ → ℕ → ℕ
depth s d g = depth_of s.stencils.width d (placed_reads s) g

-- the sum of width times depth over the kept images
abbrev pub bits : System → List ℕ → ℕ
bits s d = bits_of s.stencils.width d (placed_reads s) (widths s)

-- one begin node for all inputs, then one for each other kept image, then one end node for each kept image
abbrev pub nodes : System → ℕ
nodes s = node_count s.stencils.inputs (image_count s)

-- hold, start, read and keep, each kind in the order of the stencils
abbrev pub constraints_in : System → List Constraint
constraints_in s = constraints_of s.stencils.width s.age s.stencils.inputs (image_count s) (placed_reads s)

abbrev pub buffers : System → List Buffer
buffers s = buffers_of s.stencils.inputs (image_count s) (widths s)

-- minus the widths of the images that begin at a node, and plus those of the images that end there
abbrev pub coefficient_in : System → ℕ → ℤ
coefficient_in s v = coefficient (buffers s) v

-- a number of at least 0 on each constraint, with inflow less outflow equal to the coefficient at every node
abbrev pub IsBalanced : System → List ℕ → Type 0
IsBalanced s flow = IsFlow (constraints_in s) (buffers s) flow

-- the sum of cost times flow
abbrev pub worth_of : System → List ℕ → ℤ
worth_of s flow = worth (constraints_in s) flow

-- Numbers of the nodes that keep each constraint, and are the least in every place of those that do.
pub record AreEarliestNumbers (s : System) (numbers : List ℕ) : Type 0 where
  -- there is one for each node
  pub length : length numbers ≡ nodes s
  -- each constraint holds
  pub holds : All (Holds numbers) (constraints_in s)
  -- the inputs begin at 0
  pub zero : slice_index numbers 0 ≡ 0
  -- no other numbers that keep the constraints are less at a node
  pub least : (p : List ℕ) → All (Holds p) (constraints_in s) → (v : ℕ) → slice_index numbers v ≤ slice_index p v
  -- none is greater than 2^41
  pub near : (v : ℕ) → slice_index numbers v ≤ 2 ^ 41

-- the numbers of the nodes at which the kept images begin
abbrev pub AreBegins : System → (all found : List ℕ) → Type 0
AreBegins s all found = AreNumbersOf (begin_of s.stencils.inputs) (image_count s) all found

-- the numbers of the nodes at which the kept images end
abbrev pub AreEnds : System → (all found : List ℕ) → Type 0
AreEnds s all found = AreNumbersOf (end_of s.stencils.inputs (image_count s)) (image_count s) all found

-- causal delays that are the least in every place of all that are
pub record AreEarliestDelays (s : System) (delays : List ℕ) : Type 0 where
  -- they are causal
  pub causal : IsCausal s delays
  -- no other causal delays are less for an image
  pub least : (d : List ℕ) → IsCausal s d → (k : ℕ) → slice_index delays k ≤ slice_index d k
  -- each is below 2^34
  pub near : AreNear delays

-- constraints of a system that lead to nodes at which images end
pub record LeadToEnds (s : System) (expected found : List Constraint) : Type 0 where
  -- they are these
  pub items : found ≡ expected
  -- their targets are after all nodes at which an image begins
  pub ends : All (λ c. begin_count s.stencils.inputs (image_count s) ≤ c.target) found
  -- they can be kept in one pass
  pub bounds : AreBounded (nodes s) found

-- constraints of a system that lead to images that are no inputs
pub record LeadOnward (s : System) (expected found : List Constraint) : Type 0 where
  -- they are these
  pub items : found ≡ expected
  -- none leads to the node of the inputs
  pub later : All (λ c. 0 < c.target) found
  -- they can be kept in one pass
  pub bounds : AreBounded (nodes s) found

-- the constraints from where each image begins to where it ends
abbrev pub holds_in : System → List Constraint
holds_in s = holds_of s.stencils.inputs (image_count s)

-- those from what is read to what reads it
abbrev pub reads_in : System → List Constraint
reads_in s = map (read s.stencils.width s.age s.stencils.inputs) (placed_reads s)

-- those from what reads an image to where that ends
abbrev pub keeps_in : System → List Constraint
keeps_in s = map (keep s.stencils.width s.stencils.inputs (image_count s)) (placed_reads s)

-- what a system keeps beside its value: the reads by place, and the constraints
pub record IsHeld (s : System) (placed : List PlacedRead) (constraints : List Constraint) : Type 0 where
  pub system : IsSystem s
  pub placed_are : placed ≡ placed_reads s
  pub constraints_are : constraints ≡ constraints_in s
