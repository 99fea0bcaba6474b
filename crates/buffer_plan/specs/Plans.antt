-- What a plan says of each kept image.
use Rattle.std.specs.Prelude.{◌≡◌, ℕ, suc, ◌+◌, ◌*◌, ◌<◌, ◌==◌, ◌↔◌, ℤ, List, [], ◌∷◌, length, map, filter, Contains, unsigned_abs, slice_index, slice_index_or}
use Rattle.std.specs.List.{list_any, range_with_len}
use Rattle.std.specs.List.Sorted.{IsStrictlyIncreasing}
use Rattle.dk_base.specs.declared.stencils.LiveRead.{LiveRead}
use Rattle.dk_base.specs.Stencils.{place}
use Rattle.raster_delay.specs.declared.placed.PlacedRead.{PlacedRead}
use Rattle.raster_delay.specs.Delays.{age_of, AreNear}
use Rattle.raster_delay.specs.Placing.{placed}
use Rattle.raster_delay.specs.Systems.{System, IsSystem, IsCausal, image_count, placed_reads, widths, depth, bits}
use Rattle.buffer_plan.specs.Limits.{latency_in, IsWithinLimits}

-- a schedule: a system of live reads, and a delay in clocks for each of its kept images
pub record Plan : Type 0 where
  pub system : System
  pub delays : List ℕ

-- where an image is among the kept ones
abbrev pub place_in : Plan → ℕ → ℕ
place_in p g = place p.system.stencils.images g

abbrev pub delay_of : Plan → ℕ → ℕ
delay_of p g = slice_index p.delays (place_in p g)

-- the greatest age among the live reads that read image g, 0 without any
abbrev pub depth_of : Plan → ℕ → ℕ
depth_of p g = depth p.system p.delays (place_in p g)

-- the ages of the live reads that read the image at place k, in the order of the reads
abbrev pub ages_in : (row : ℕ) → List ℕ → ℕ → List PlacedRead → List ℕ
ages_in row d k reads = map (λ r. unsigned_abs (age_of row d r)) (filter (λ r. r.g == k) reads)

-- the distinct numbers of a list, ascending
pub record AreDistinct (all distinct : List ℕ) : Type 0 where
  pub ascending : IsStrictlyIncreasing distinct
  pub same : (a : ℕ) → Contains distinct a ↔ Contains all a

-- the distinct ages of the live reads that read image g, ascending
abbrev pub AreAges : Plan → ℕ → List ℕ → Type 0
AreAges p g ages = AreDistinct (ages_in p.system.stencils.width p.delays (place_in p g) (placed_reads p.system)) ages

-- the last of a list that begins after `before`
abbrev pub last_of : (before : ℕ) → List ℕ → ℕ
last_of before [] = before
last_of before (x ∷ xs) = last_of x xs

-- those of the ages up to the depth at which some live read reads image g
abbrev pub ages_of : Plan → ℕ → List ℕ
ages_of p g =
    filter (λ age. list_any (λ a. a == age) (ages_in p.system.stencils.width p.delays (place_in p g) (placed_reads p.system))) (range_with_len 0 (suc (depth_of p g)))

-- how old a live read is: how long before the reader's pixel the pixel that is read came
abbrev pub read_age : Plan → LiveRead → ℤ
read_age p r = age_of p.system.stencils.width p.delays (placed p.system.stencils.images r)

-- the live reads that image f makes
abbrev pub reads_by : ℕ → List LiveRead → List LiveRead
reads_by f reads = filter (λ r. r.f == f) reads

abbrev pub width_of : Plan → ℕ → ℕ
width_of p g = slice_index (widths p.system) (place_in p g)

-- the delay of the output numbered k
abbrev pub latency_of : Plan → ℕ → ℕ
latency_of p k = delay_of p (slice_index p.system.stencils.outputs k)

-- the greatest delay of an output
abbrev pub latency : Plan → ℕ
latency p = latency_in p.system p.delays

-- the clocks from an image's first pixel to the last pixel of the latest output
abbrev pub clocks : Plan → ℕ
clocks p = p.system.stencils.width * p.system.stencils.height + latency p

abbrev pub bits_of : Plan → ℕ
bits_of p = bits p.system p.delays

-- causal delays within the limits
pub record IsPlan (p : Plan) : Type 0 where
  pub system : IsSystem p.system
  pub causal : IsCausal p.system p.delays
  pub near : AreNear p.delays
  pub within : IsWithinLimits p.system p.delays

-- what a plan keeps beside its value: each image's depth and ages, the latency and the bits
pub record IsHeld (p : Plan) (depths : List ℕ) (ages : List (List ℕ)) (greatest total : ℕ) : Type 0 where
  pub plan : IsPlan p
  pub one_depth_each : length depths ≡ image_count p.system
  pub depths_are : (k : ℕ) → k < image_count p.system → slice_index depths k ≡ depth p.system p.delays k
  pub one_list_each : length ages ≡ image_count p.system
  pub ages_are : (k : ℕ) → k < image_count p.system → AreDistinct (ages_in p.system.stencils.width p.delays k (placed_reads p.system)) (slice_index_or ages k [])
  pub latency_is : greatest ≡ latency p
  pub bits_are : total ≡ bits_of p
