-- The images that a program writes for a round.
use Rattle.std.specs.Prelude.{ℕ, ◌-◌, ◌^◌, List, map}
use Rattle.dk_base.specs.declared.ty.Ty.{Ty}
use Rattle.dk_base.specs.Frames.{Size, Picture, raster}
use Rattle.pgm_codec.specs.Images.{Image}
use Rattle.dk_base.specs.Frames.{picture_at}
use Rattle.program_images.specs.Ports.{bits_of}

-- the image of a picture whose values have this many bits: its maxval is the greatest of them
abbrev pub image_of : Size → ℕ → Picture → Image
image_of size bits picture = record { width = size.width; height = size.height; maxval = 2 ^ bits - 1; samples = raster size picture }

-- one image for each output in order, where the images of the program have these types and these pictures
abbrev pub output_images : Size → List Ty → (outputs : List ℕ) → (known : List Picture) → List Image
output_images size types outputs known = map (λ g. image_of size (bits_of types g) (picture_at known g)) outputs
