-- Used by private functions only.
-- The images that were read and clocked, and why the next one was not.
use Rattle.std.specs.Prelude.{◌≡◌, ℕ, List, length, map, Option, ◌<◌, ◌≤◌, Err}
use Rattle.std.specs.List.{AllByRecursion}
use Rattle.std.specs.Io.KnownBytes.{prepend_known, IsAtEnd}
use Rattle.dk_desk.specs.Outside.{Outside, Input}
use Rattle.wiring.specs.Netlist.{Netlist}
use Rattle.wiring.specs.Snapshot.{Contents}
use Rattle.pgm_codec.specs.declared.header.Header.{Header}
use Rattle.pgm_codec.specs.Answers.{Reads}
use Rattle.pgm_codec.specs.Images.{Image, AreImages}
use Rattle.row_stream.specs.declared.line.Line.{Line}
use Rattle.row_stream.specs.Lines.{Kind}
use Rattle.row_stream.specs.Standing.{pixel_clock}
use Rattle.row_stream.specs.Progress.{Goes}
use Rattle.row_stream.specs.Images.{FitsImage, samples_of}
use Rattle.dk_base.specs.declared.TheConstants.{MAX_FILE_IMAGES}
use Rattle.pgm_codec.specs.declared.raster.RasterFault.{RasterFault}
use Rattle.pgm_codec.specs.Rasters.{JudgesRaster}
use Rattle.pgm_rounds.specs.Files.{IsHeaded, Refused}
use Rattle.row_stream.specs.declared.rows.RowsFault.TheVariants.{Raster, Read as RowsRead, Write as RowsWrite}
use Rattle.row_stream.specs.declared.faults.StreamFault.{StreamFault}
use Rattle.row_stream.specs.declared.faults.StreamFault.TheVariants.{Image as ImageFails, Read, Write}
use Rattle.row_stream.specs.Heads.{FitsHeader}
use Rattle.row_stream.specs.RowReading.{EndsRows}
use Rattle.row_stream.specs.Ends.{EndsNext, greatest}

-- These images were read and clocked. All that there was begins with their bytes.
pub record Images (kind : Kind) (m : Netlist) (most count : ℕ) (all : Option (List ℕ)) (from to : Contents) (old new : Line) (before now : Outside) : Type 0 where
  pub images : List Image
  pub bytes : List ℕ
  pub are : AreImages bytes images
  pub fit : AllByRecursion (FitsImage kind.size most) images
  pub count_is : length images ≡ count
  pub given : all ≡ prepend_known bytes now.image.rest
  pub goes : Goes kind m (map (λ s. pixel_clock s) (samples_of images)) from to old new before now

-- Images were read and clocked, and this header was read after them.
pub record AtHead (kind : Kind) (m : Netlist) (most count : ℕ) (header : Header) (all : Option (List ℕ)) (from to : Contents) (old new : Line) (before now : Outside) : Type 0 where
  pub half : Outside
  pub images : Images kind m most count all from to old new before half
  pub head : List ℕ
  pub reads : Reads head header
  pub exact : length head ≡ header.length
  pub given : half.image.rest ≡ prepend_known head now.image.rest
  pub only : now ≡ record half { image = record half.image { rest = now.image.rest } }

-- why the lines of an image after this number of others were not all streamed
abbrev pub EndsImage : Kind → Netlist → Header → (bits images : ℕ) → StreamFault → Contents → Line → (before now : Outside) → Type 0
EndsImage kind m header bits images (ImageFails fault) from old before now =
    (f : RasterFault) × EndsRows kind m header (Raster f) from old before now
    × ((offset : ℕ) (bytes : List ℕ) → IsHeaded kind.size bits bytes header → JudgesRaster bytes header (Err f) → Refused kind.size bits images offset bytes fault)
EndsImage kind m header bits images Read from old before now = EndsRows kind m header RowsRead from old before now
EndsImage kind m header bits images Write from old before now = EndsRows kind m header RowsWrite from old before now

-- `count` images were streamed and a header was read after them, at this offset of the file.
pub record Stands (kind : Kind) (m : Netlist) (bits count offset : ℕ) (header : Header) (all : Option (List ℕ)) (from to : Contents) (old new : Line) (before now : Outside) : Type 0 where
  pub at : AtHead kind m (greatest bits) count header all from to old new before now
  pub offset_is : offset ≡ length at.images.bytes

-- All images were streamed, and the input is at its end.
pub record StreamsAll (kind : Kind) (m : Netlist) (bits : ℕ) (all : Option (List ℕ)) (from to : Contents) (old new : Line) (before now : Outside) : Type 0 where
  pub count : ℕ
  pub some : 0 < count
  pub few : count ≤ MAX_FILE_IMAGES
  pub images : Images kind m (greatest bits) count all from to old new before now
  pub end : IsAtEnd now.image.rest

-- Images were streamed, and the next one was not begun.
pub record EndsBehind (kind : Kind) (m : Netlist) (bits : ℕ) (fault : StreamFault) (all : Option (List ℕ)) (from : Contents) (old : Line) (before now : Outside) : Type 0 where
  pub count : ℕ
  pub some : 0 < count
  pub to : Contents
  pub new : Line
  pub half : Outside
  pub images : Images kind m (greatest bits) count all from to old new before half
  pub why : EndsNext kind.size bits count (length images.bytes) fault half.image now.image
  pub only : now ≡ record half { image = record half.image { rest = now.image.rest }; input_failures = now.input_failures }

-- Images were streamed, a header of one more was read, and its lines were not all streamed.
pub record EndsInside (kind : Kind) (m : Netlist) (bits : ℕ) (fault : StreamFault) (all : Option (List ℕ)) (from : Contents) (old : Line) (before now : Outside) : Type 0 where
  pub count : ℕ
  pub few : count < MAX_FILE_IMAGES
  pub header : Header
  pub fits : FitsHeader kind.size bits header
  pub to : Contents
  pub new : Line
  pub half : Outside
  pub at : AtHead kind m (greatest bits) count header all from to old new before half
  pub why : EndsImage kind m header bits count fault to new half now

-- How the images of a file end before their end. All lines that were whole before were streamed.
pub data EndsImages (kind : Kind) (m : Netlist) (bits : ℕ) (fault : StreamFault) (all : Option (List ℕ)) (from : Contents) (old : Line) (before now : Outside) : Type 0 where
  found_behind : EndsBehind kind m bits fault all from old before now → EndsImages kind m bits fault all from old before now
  found_inside : EndsInside kind m bits fault all from old before now → EndsImages kind m bits fault all from old before now

-- the outside with what was left before a header was taken
abbrev pub unread : Input → Outside → Outside
unread before now = record now { image = record now.image { rest = before.rest } }
