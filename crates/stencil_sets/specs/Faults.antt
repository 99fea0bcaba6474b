-- Why a program has no stencils.
use Rattle.std.specs.Prelude.{◌<◌}
use Rattle.dk_base.specs.declared.TheConstants.{MAX_LIVE_READS}
use Rattle.pointwise_ir.specs.Programs.{Program}
use Rattle.stencil_sets.specs.declared.live.StencilFault.{StencilFault}
use Rattle.stencil_sets.specs.declared.live.StencilFault.TheVariants.{Reads, OutOfMemory}
use Rattle.stencil_sets.specs.Live.{HasCount}

-- it has too many live reads, and this many, or there is no memory
abbrev pub IsFault : Program → StencilFault → Type 0
IsFault p (Reads count) = (MAX_LIVE_READS < count) × HasCount p count
IsFault p OutOfMemory = Unit {0}
