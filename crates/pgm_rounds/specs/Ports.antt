-- What is asked of the images of a file.
use Rattle.std.specs.Prelude.{ℕ, List}
use Rattle.dk_base.specs.Frames.{Size}

-- the size of the frames, and the bits of each input in order
pub record Ports : Type 0 where
  pub size : Size
  pub inputs : List ℕ

-- frames of this size for inputs of these widths
abbrev pub ports_with : Size → List ℕ → Ports
ports_with size widths = record { size = size; inputs = widths }
