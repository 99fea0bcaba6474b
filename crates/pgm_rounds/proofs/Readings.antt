-- The laws of the images' form, as arguments of lemmas.
use Rattle.std.proofs.Common.{◌≡◌, ℕ, ◌*◌, ◌<◌, List, ◌++◌, length, get_or, Result}
use Rattle.pgm_codec.specs.declared.header.Header.{Header}
use Rattle.pgm_codec.specs.declared.header.HeaderFault.{HeaderFault}
use Rattle.pgm_codec.specs.declared.raster.RasterFault.{RasterFault}
use Rattle.pgm_codec.specs.Answers.{Reads, Judges}
use Rattle.pgm_codec.specs.Images.{Image, IsImageOf, IsRaster, IsFile}
use Rattle.pgm_codec.specs.Rasters.{sample_at, JudgesRaster}
use Rattle.pgm_codec.specs.Rounds.{Fits}

-- the bytes fix an image and its end
abbrev pub OneImage : Type 0
OneImage = (first second rest more : List ℕ) (p q : Image) → IsImageOf first p → IsImageOf second q → first ++ rest ≡ second ++ more → (first ≡ second) × (p ≡ q)

-- and the images of a file
abbrev pub OneFile : Type 0
OneFile = (bytes : List ℕ) (ps qs : List Image) → IsFile bytes ps → IsFile bytes qs → ps ≡ qs

-- images are cut into rounds in one way
abbrev pub OneCut : Type 0
OneCut = (width height : ℕ) (inputs : List ℕ) (images : List Image) (rounds others : List (List Image)) → 0 < length inputs → Fits width height inputs images rounds → Fits width height inputs images others → rounds ≡ others

-- the bytes fix the answer on a header
abbrev pub OneHeader : Type 0
OneHeader = (bytes : List ℕ) (a b : Result Header HeaderFault) → Judges bytes a → Judges bytes b → a ≡ b

-- and on the raster after it
abbrev pub OneRaster : Type 0
OneRaster = (bytes : List ℕ) (header : Header) → Reads bytes header → (a b : Result Unit RasterFault) → JudgesRaster bytes header a → JudgesRaster bytes header b → a ≡ b

-- the samples of a raster are at their places in its bytes
abbrev pub SamplesPlaced : Type 0
SamplesPlaced = (bytes rest samples : List ℕ) (width height maxval : ℕ) → IsRaster bytes width height maxval samples → (k : ℕ) → k < width * height → get_or samples k 0 ≡ sample_at maxval (bytes ++ rest) k
