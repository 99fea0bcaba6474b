-- The number of lines with which a file begins.
use Rattle.std.specs.Prelude.{◌≡◌, ℕ, ◌+◌, ◌≤◌, List, ◌++◌, length}
use Rattle.dk_base.specs.Frames.{Size}
use Rattle.pgm_codec.specs.declared.header.Header.{Header}
use Rattle.pgm_codec.specs.Answers.{Reads}
use Rattle.pgm_codec.specs.Images.{Image, IsImageOf, IsRaster}
use Rattle.row_stream.specs.Heads.{FitsHeader}
use Rattle.row_stream.specs.Images.{FitsImage}
use Rattle.row_stream.specs.Ends.{greatest}

-- The bytes begin with `rows` whole lines in order, counted through images of this size and width, each after its header.
pub data BeginsLines (size : Size) (bits : ℕ) : List ℕ → ℕ → Type 0 where
  nothing : {bytes : List ℕ} {rows : ℕ} → rows ≡ 0 → BeginsLines size bits bytes rows
  lines : {bytes : List ℕ} {rows : ℕ} (header : Header) (head raster samples rest : List ℕ) → FitsHeader size bits header → Reads head header → length head ≡ header.length → rows ≤ header.height → IsRaster raster header.width rows header.maxval samples
      → bytes ≡ head ++ (raster ++ rest) → BeginsLines size bits bytes rows
  image : {bytes : List ℕ} {rows : ℕ} (image : Image) (first rest : List ℕ) (more : ℕ) → IsImageOf first image → FitsImage size (greatest bits) image → bytes ≡ first ++ rest → BeginsLines size bits rest more
      → rows ≡ size.height + more → BeginsLines size bits bytes rows

-- This many whole lines in order are all with which the bytes begin.
pub record EndsLines (size : Size) (bits : ℕ) (bytes : List ℕ) (rows : ℕ) : Type 0 where
  pub begins : BeginsLines size bits bytes rows
  pub most : (more : ℕ) → BeginsLines size bits bytes more → more ≤ rows
