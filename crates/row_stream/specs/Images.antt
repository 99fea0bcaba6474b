-- Images that fit a stream.
use Rattle.std.specs.Prelude.{◌≡◌, ℕ, ◌≤◌, List}
use Rattle.std.specs.List.{flat_map}
use Rattle.dk_base.specs.Frames.{Size}
use Rattle.pgm_codec.specs.Images.{Image}

-- an image of this size, whose maxval is at most this
pub record FitsImage (size : Size) (most : ℕ) (image : Image) : Type 0 where
  pub width : image.width ≡ size.width
  pub height : image.height ≡ size.height
  pub maxval : image.maxval ≤ most

abbrev pub samples_of : List Image → List ℕ
samples_of images = flat_map (λ (image : Image). image.samples) images
