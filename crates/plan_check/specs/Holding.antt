-- What the lines of a report have to be, by its printed numbers.
use Rattle.std.specs.Prelude.{◌≡◌, ℕ, ℤ, pos, ◌+◌, ◌*◌, ◌<◌, ◌≤◌, ◌≤ℤ◌, max, List, [], ◌∷◌, map, slice_index, Contains, All}
use Rattle.dk_base.specs.Stencils.{place}
use Rattle.raster_delay.specs.declared.placed.PlacedRead.{PlacedRead}
use Rattle.raster_delay.specs.Delays.{age_of}
use Rattle.raster_delay.specs.Systems.{System, IsCausal, IsBalanced, image_count, widths, placed_reads, depth, bits, worth_of}
use Rattle.report_text.specs.declared.report.ImageLine.{ImageLine}
use Rattle.report_text.specs.declared.report.FlowLine.{FlowLine}
use Rattle.report_text.specs.declared.report.FlowLine.TheVariants.{Hold, Start, Read, Keep}
use Rattle.report_text.specs.Reports.{Report}
use Rattle.plan_check.specs.Flows.{carrying, carried, makers}

-- what the image lines print, in their order
abbrev pub delays_of : List ImageLine → List ℕ
delays_of images = map (λ i. i.delay) images

abbrev pub depths_of : List ImageLine → List ℕ
depths_of images = map (λ i. i.depth) images

abbrev pub widths_of : List ImageLine → List ℕ
widths_of images = map (λ i. i.width) images

abbrev pub delays : Report → List ℕ
delays r = delays_of r.images

-- a read of image g is at least `age` clocks old
abbrev pub IsOldOf : (row age : ℕ) → (delays : List ℕ) → (g : ℕ) → PlacedRead → Type 0
IsOldOf row age d g r = r.g ≡ g → pos age ≤ℤ age_of row d r

-- the line of the image at place k: the width of the image, no delay of an input, each live read that reads it old enough, and the greatest of their ages
pub record ImageHolds (s : System) (images : List ImageLine) (k : ℕ) : Type 0 where
  pub width_is : slice_index (widths_of images) k ≡ slice_index (widths s) k
  pub at_once : k < s.stencils.inputs → slice_index (delays_of images) k ≡ 0
  pub ages : All (IsOldOf s.stencils.width s.age (delays_of images) k) (placed_reads s)
  pub depth_is : slice_index (depths_of images) k ≡ depth s (delays_of images) k

-- the delay of the output at place k
abbrev pub output_delay : System → List ImageLine → ℕ → ℕ
output_delay s images k = slice_index (delays_of images) (place s.stencils.images (slice_index s.stencils.outputs k))

abbrev pub LatencyHolds : System → List ImageLine → List ℕ → ℕ → Type 0
LatencyHolds s images latencies k = slice_index latencies k ≡ output_delay s images k

-- the greatest of these numbers, 0 of none
abbrev pub greatest : List ℕ → ℕ
greatest [] = 0
greatest (n ∷ ns) = max n (greatest ns)

-- the pixels of a frame of the printed size, and the greatest of the printed latencies
abbrev pub clocks_of : Report → ℕ
clocks_of r = r.width * r.height + greatest r.latencies

-- the read that a flow line names
abbrev pub read_at : (f g : ℕ) → (dx dy : ℤ) → PlacedRead
read_at f g dx dy = record { f = f; g = g; dx = dx; dy = dy }

-- there is such a constraint: of a kept image, of one that is no input, or of a live read
abbrev pub HasConstraint : System → FlowLine → Type 0
HasConstraint s (Hold g n) = g < image_count s
HasConstraint s (Start f n) = (s.stencils.inputs ≤ f) × (f < image_count s)
HasConstraint s (Read f g dx dy n) = Contains (placed_reads s) (read_at f g dx dy)
HasConstraint s (Keep f g dx dy n) = Contains (placed_reads s) (read_at f g dx dy)

-- The flow lines are those of a balanced flow on all constraints that is worth the bits: one for each constraint that carries some, in the order of the constraints. Lines of 0 say nothing.
pub record FlowHolds (s : System) (lines : List FlowLine) (bits : ℕ) : Type 0 where
  pub flow : List ℕ
  pub lines_are : carrying lines ≡ carried (makers s) flow
  pub balanced : IsBalanced s flow
  pub worth_is : worth_of s flow ≡ pos bits

-- the printed delays are causal, and no causal delays need fewer bits than the printed ones
pub record AreLeast (s : System) (r : Report) : Type 0 where
  pub causal : IsCausal s (delays r)
  pub bits_are : bits s (delays r) ≡ r.bits
  pub least : (d : List ℕ) → IsCausal s d → r.bits ≤ bits s d
