-- Images and files, read and written.
use Rattle.std.specs.Prelude.{◌≡◌, ℕ, ◌*◌, ◌/◌, ◌%◌, ◌^◌, ◌<◌, ◌≤◌, Bool, true, false, List, [], ◌∷◌, ◌++◌, length, nat_lt, codes}
use Rattle.std.specs.List.{flat_map, AllByRecursion}
use Rattle.std.specs.Fmt.{decimal}
use Rattle.dk_base.specs.declared.TheConstants.{MAX_FILE_IMAGES, MAX_MAXVAL}
use Rattle.pgm_codec.specs.Headers.{IsHeader}

-- samples of an image with this maxval have one byte
abbrev pub is_narrow : ℕ → Bool
is_narrow maxval = nat_lt maxval 256

-- a sample of one byte, or of two, the most significant first
abbrev pub spelled : Bool → ℕ → List ℕ
spelled true sample = sample ∷ []
spelled false sample = (sample / 256) ∷ (sample % 256) ∷ []

abbrev pub size_of : Bool → ℕ
size_of true = 1
size_of false = 2

abbrev pub sample_bytes : ℕ → ℕ → List ℕ
sample_bytes maxval sample = spelled (is_narrow maxval) sample

-- the number of bytes of a sample
abbrev pub sample_size : ℕ → ℕ
sample_size maxval = size_of (is_narrow maxval)

-- the bytes of samples
abbrev pub raster_of : ℕ → List ℕ → List ℕ
raster_of maxval samples = flat_map (sample_bytes maxval) samples

-- The bytes are the raster of an image: these width * height samples of 0 to maxval.
pub record IsRaster (bytes : List ℕ) (width height maxval : ℕ) (samples : List ℕ) : Type 0 where
  pub count : length samples ≡ width * height
  pub bounded : AllByRecursion (λ sample. sample ≤ maxval) samples
  pub bytes_are : bytes ≡ raster_of maxval samples

-- The bytes are one image.
pub record IsImage (bytes : List ℕ) (width height maxval : ℕ) (samples : List ℕ) : Type 0 where
  pub header : List ℕ
  pub raster : List ℕ
  pub place : ℕ
  pub parts : bytes ≡ header ++ raster
  pub heads : IsHeader header width height maxval place
  pub positive : 0 < maxval
  pub small : maxval ≤ MAX_MAXVAL
  pub holds : IsRaster raster width height maxval samples

-- an image with its header's numbers
pub record Image : Type 0 where
  pub width : ℕ
  pub height : ℕ
  pub maxval : ℕ
  pub samples : List ℕ

-- The bytes are this picture's image.
abbrev pub IsImageOf : List ℕ → Image → Type 0
IsImageOf bytes p = IsImage bytes p.width p.height p.maxval p.samples

-- The bytes are these images, one after another.
abbrev pub AreImages : List ℕ → List Image → Type 0
AreImages bytes [] = bytes ≡ []
AreImages bytes (p ∷ ps) = (first : List ℕ) × (rest : List ℕ) × (bytes ≡ first ++ rest) × IsImageOf first p × AreImages rest ps

-- The bytes are a file of these 1 to 65,536 images.
abbrev pub IsFile : List ℕ → List Image → Type 0
IsFile bytes pictures = (0 < length pictures) × (length pictures ≤ MAX_FILE_IMAGES) × AreImages bytes pictures

-- the header that is written
abbrev pub header_of : ℕ → ℕ → ℕ → List ℕ
header_of width height maxval = codes "P5\n" ++ (decimal width ++ (codes " " ++ (decimal height ++ (codes "\n" ++ (decimal maxval ++ codes "\n")))))

-- what a picture has to be to be written
pub record CanBeWritten (p : Image) : Type 0 where
  pub width : p.width < 2 ^ 32
  pub height : p.height < 2 ^ 32
  pub positive : 0 < p.maxval
  pub small : p.maxval ≤ MAX_MAXVAL
  pub count : length p.samples ≡ p.width * p.height
  pub bounded : AllByRecursion (λ sample. sample ≤ p.maxval) p.samples

-- the file that is written
abbrev pub file_of : List Image → List ℕ
file_of pictures = flat_map (λ p. header_of p.width p.height p.maxval ++ raster_of p.maxval p.samples) pictures
