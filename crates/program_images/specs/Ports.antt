-- What a program asks of the files that it reads.
use Rattle.std.specs.Prelude.{ℕ, List, map, slice_index_or}
use Rattle.dk_base.specs.declared.ty.Ty.{Ty}
use Rattle.dk_base.specs.declared.ty.Ty.TheVariants.{Unsigned}
use Rattle.dk_base.specs.Types.{width_of}
use Rattle.dk_base.specs.Frames.{Size}
use Rattle.pointwise_ir.specs.Programs.{Program}
use Rattle.pgm_rounds.specs.Ports.{Ports, ports_with}

-- the bits of image g, where the images have these types
abbrev pub bits_of : List Ty → ℕ → ℕ
bits_of types g = width_of (slice_index_or types g (Unsigned 0))

-- frames of this size for inputs of these types
abbrev pub ports_from : Size → (inputs : List Ty) → Ports
ports_from size inputs = ports_with size (map width_of inputs)

abbrev pub ports_of : Program → Ports
ports_of p = ports_from p.size (map (λ i. i.ty) p.inputs)
