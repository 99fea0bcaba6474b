-- What is answered on a raster.
use Rattle.std.specs.Prelude.{◌≡◌, ℕ, ◌+◌, ◌*◌, ◌<◌, ◌≤◌, Bool, true, false, List, ◌++◌, length, drop, slice_index, Result, Ok, Err}
use Rattle.pgm_codec.specs.Images.{is_narrow, sample_size, IsImage}
use Rattle.pgm_codec.specs.declared.header.Header.{Header}
use Rattle.pgm_codec.specs.declared.raster.RasterFault.{RasterFault}
use Rattle.pgm_codec.specs.declared.raster.RasterFault.TheVariants.{SampleTooGreat, Short}

-- the sample of this number in bytes of a raster
abbrev pub sample_by : Bool → List ℕ → ℕ → ℕ
sample_by true bytes k = slice_index bytes k
sample_by false bytes k = 256 * slice_index bytes (2 * k) + slice_index bytes (2 * k + 1)

abbrev pub sample_at : ℕ → List ℕ → ℕ → ℕ
sample_at maxval bytes k = sample_by (is_narrow maxval) bytes k

-- Each sample that is whole in these bytes is at most maxval.
abbrev pub AllFit : ℕ → List ℕ → Type 0
AllFit maxval bytes = (k : ℕ) → (k + 1) * sample_size maxval ≤ length bytes → sample_at maxval bytes k ≤ maxval

-- This is the first sample above maxval, and is whole in these bytes.
pub record FirstGreat (maxval : ℕ) (bytes : List ℕ) (index : ℕ) : Type 0 where
  pub held : (index + 1) * sample_size maxval ≤ length bytes
  pub great : maxval < sample_at maxval bytes index
  pub before : (k : ℕ) → k < index → sample_at maxval bytes k ≤ maxval

-- the bytes after the header
abbrev pub behind : Header → List ℕ → List ℕ
behind header bytes = drop header.length bytes

-- the bytes of the whole raster
abbrev pub raster_length : Header → ℕ
raster_length header = header.width * header.height * sample_size header.maxval

-- The bytes begin with an image that has this header and these samples.
pub record BeginsImage (bytes : List ℕ) (header : Header) (samples : List ℕ) : Type 0 where
  pub image : List ℕ
  pub rest : List ℕ
  pub parts : bytes ≡ image ++ rest
  pub is_image : IsImage image header.width header.height header.maxval samples

-- A whole sample of the image is above maxval, and this is the first.
pub record TooGreat (bytes : List ℕ) (header : Header) (index : ℕ) : Type 0 where
  pub inside : index < header.width * header.height
  pub first : FirstGreat header.maxval (behind header bytes) index

-- Bytes of the raster are missing, and no whole sample is above maxval.
pub record TooShort (bytes : List ℕ) (header : Header) (held need : ℕ) : Type 0 where
  pub held_is : held ≡ length (behind header bytes)
  pub need_is : need ≡ raster_length header
  pub short : held < need
  pub fit : AllFit header.maxval (behind header bytes)

abbrev pub JudgesRaster : List ℕ → Header → Result Unit RasterFault → Type 0
JudgesRaster bytes header (Ok u) = (samples : List ℕ) × BeginsImage bytes header samples
JudgesRaster bytes header (Err (SampleTooGreat index)) = TooGreat bytes header index
JudgesRaster bytes header (Err (Short held need)) = TooShort bytes header held need

-- the bytes of one row
abbrev pub row_length : Header → ℕ
row_length header = header.width * sample_size header.maxval

-- what is answered on the bytes of a row that were read
abbrev pub JudgesRow : List ℕ → Header → ℕ → Result Unit RasterFault → Type 0
JudgesRow read header row (Ok u) = (length read ≡ row_length header) × AllFit header.maxval read
JudgesRow read header row (Err (SampleTooGreat index)) = (column : ℕ) × FirstGreat header.maxval read column × (index ≡ row * header.width + column)
JudgesRow read header row (Err (Short held need)) = (length read < row_length header) × AllFit header.maxval read × (held ≡ row * row_length header + length read) × (need ≡ raster_length header)
