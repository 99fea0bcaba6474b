-- Why a line was not read.
use Rattle.std.specs.Prelude.{◌≡◌, ℕ, ◌*◌, ◌<◌, ◌≤◌, List, length, Err}
use Rattle.std.specs.Io.KnownBytes.{prepend_known, IsAtEnd}
use Rattle.dk_base.specs.declared.TheConstants.{MAX_SIDE}
use Rattle.dk_desk.specs.declared.Stage.TheVariants.{Open}
use Rattle.dk_desk.specs.Outside.{Outside, Input}
use Rattle.dk_desk.specs.Calls.{LosesFewer}
use Rattle.pgm_codec.specs.declared.header.Header.{Header}
use Rattle.pgm_codec.specs.declared.raster.RasterFault.{RasterFault}
use Rattle.pgm_codec.specs.Rasters.{JudgesRow, row_length}
use Rattle.row_stream.specs.declared.rows.RowsFault.{RowsFault}
use Rattle.row_stream.specs.declared.rows.RowsFault.TheVariants.{Raster, Read, Write}
use Rattle.row_stream.specs.declared.faults.StreamFault.{StreamFault}
use Rattle.row_stream.specs.declared.faults.StreamFault.TheVariants.{Image as ImageFails, Read as ReadFails, Write as WriteFails}

-- The line of this number can be read into room for this many bytes.
pub record CanReadRow (header : Header) (number places : ℕ) (o : Outside) : Type 0 where
  pub opened : o.image.stage ≡ Open
  pub width : header.width ≤ MAX_SIDE
  pub row : number < header.height
  pub room : 2 * header.width ≤ places

-- A line was read that is not a line of the image. More bytes follow only if it is whole.
pub record IsRowRefused (header : Header) (row : ℕ) (f : RasterFault) (old new : Input) : Type 0 where
  pub read : List ℕ
  pub given : old.rest ≡ prepend_known read new.rest
  pub within : length read ≤ row_length header
  pub judged : JudgesRow read header row (Err f)
  pub end : length read < row_length header → IsAtEnd new.rest

-- why a line was not read
abbrev pub IsRowFault : Header → (row : ℕ) → RowsFault → (old new : Input) → Type 0
IsRowFault header row (Raster f) old new = IsRowRefused header row f old new
IsRowFault header row Read old new = LosesFewer (row_length header) old new
IsRowFault header row Write old new = ⊥

-- why a line was not read, by what ends the stream
abbrev pub IsLineFault : Header → (row : ℕ) → StreamFault → (old new : Input) → Type 0
IsLineFault header row (ImageFails fault) old new = (f : RasterFault) × IsRowFault header row (Raster f) old new
IsLineFault header row ReadFails old new = IsRowFault header row Read old new
IsLineFault header row WriteFails old new = ⊥
