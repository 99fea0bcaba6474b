-- The limits on bits and latency: which delays are within them, and which one a system's least vector passes first.
use Rattle.std.specs.Prelude.{◌≡◌, ℕ, ◌<◌, ◌≤◌, max, List, [], ◌∷◌, slice_index, ⊤}
use Rattle.dk_base.specs.declared.stencils.Image.{Image}
use Rattle.dk_base.specs.declared.TheConstants.{MAX_BUFFER_BITS, MAX_LATENCY}
use Rattle.dk_base.specs.Stencils.{place}
use Rattle.raster_delay.specs.Systems.{System, bits}
use Rattle.flow_dual.specs.Solutions.{IsLeastVector}
use Rattle.buffer_plan.specs.declared.fault.PlanFault.{PlanFault}
use Rattle.buffer_plan.specs.declared.fault.PlanFault.TheVariants.{Bits, Latency, OutOfMemory}

-- the greatest delay of these images, 0 of none
abbrev pub greatest_delay : List Image → List ℕ → List ℕ → ℕ
greatest_delay images d [] = 0
greatest_delay images d (g ∷ gs) = max (slice_index d (place images g)) (greatest_delay images d gs)

-- the greatest delay of an output
abbrev pub latency_in : System → List ℕ → ℕ
latency_in s d = greatest_delay s.stencils.images d s.stencils.outputs

-- bits and latency are within their limits
pub record IsWithinLimits (s : System) (d : List ℕ) : Type 0 where
  pub few_bits : bits s d ≤ MAX_BUFFER_BITS
  pub short : latency_in s d ≤ MAX_LATENCY

-- The first limit that these delays exceed: Bits, and then Latency. Out of memory states nothing.
abbrev pub Passes : System → List ℕ → PlanFault → Type 0
Passes s d (Bits least) = (least ≡ bits s d) × (MAX_BUFFER_BITS < least)
Passes s d (Latency clocks) = (bits s d ≤ MAX_BUFFER_BITS) × (clocks ≡ latency_in s d) × (MAX_LATENCY < clocks)
Passes s d OutOfMemory = ⊤

-- the least vector of the system is within the limits
pub record KeepsLimits (s : System) : Type 0 where
  pub delays_are : List ℕ
  pub vector : IsLeastVector s delays_are
  pub within : IsWithinLimits s delays_are

-- the limit that the least vector of the system passes first
pub record IsPassed (s : System) (f : PlanFault) : Type 0 where
  pub delays_are : List ℕ
  pub vector : IsLeastVector s delays_are
  pub passes : Passes s delays_are f

-- why the system has no plan
abbrev pub IsPlanFault : System → PlanFault → Type 0
IsPlanFault s (Bits least) = IsPassed s (Bits least)
IsPlanFault s (Latency clocks) = IsPassed s (Latency clocks)
IsPlanFault s OutOfMemory = ⊤
