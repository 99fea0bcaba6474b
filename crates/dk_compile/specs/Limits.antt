-- Texts at a requested age of their live reads: their systems, and the limits on bits and latency.
use Rattle.std.specs.Prelude.{◌≡◌, ℕ, List}
use Rattle.dk_types.specs.Typed.{Typing}
use Rattle.pointwise_ir.specs.Programs.{Program}
use Rattle.raster_delay.specs.Systems.{System}
use Rattle.buffer_plan.specs.declared.fault.PlanFault.{PlanFault}
use Rattle.buffer_plan.specs.declared.fault.PlanFault.TheVariants as plan
use Rattle.buffer_plan.specs.Limits.{KeepsLimits, IsPassed}
use Rattle.source_fault.specs.declared.fault.SourceFault.{SourceFault}
use Rattle.source_fault.specs.declared.fault.SourceFault.TheVariants.{Bits, Latency}
use Rattle.dk_compile.specs.Sources.{IsAccepted, IsSourceFault}
use Rattle.dk_compile.specs.Fronts.{IsFront}

-- The text is that of a program within its limits, which has this form and, at this age, this system: its kept images with their widths, and its live reads.
pub record HasSystem (text : List ℕ) (age : ℕ) (p : Typing) (ir : Program) (s : System) : Type 0 where
  pub front : IsFront text p ir s.stencils
  pub age_is : s.age ≡ age

-- the text is accepted, and at this age its least bits and the latency of its least vector are within their limits
pub record IsAcceptedAt (text : List ℕ) (age : ℕ) (p : Typing) : Type 0 where
  pub accepted : IsAccepted text p
  pub ir : Program
  pub system : System
  pub has : HasSystem text age p ir system
  pub keeps : KeepsLimits system

-- the text is accepted, and this is the first limit that its least vector at this age exceeds
pub record PassesLimit (text : List ℕ) (age : ℕ) (fault : PlanFault) : Type 0 where
  pub program : Typing
  pub ir : Program
  pub system : System
  pub has : HasSystem text age program ir system
  pub passes : IsPassed system fault

-- The first fault of a text at this age: its own, and then the least bits, and then the latency of the least vector.
abbrev pub IsFaultAt : List ℕ → (age : ℕ) → SourceFault → Type 0
IsFaultAt text age (Bits least) = PassesLimit text age (plan.Bits least)
IsFaultAt text age (Latency clocks) = PassesLimit text age (plan.Latency clocks)
IsFaultAt text age fault = IsSourceFault text fault
