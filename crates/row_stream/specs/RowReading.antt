-- Used by private functions only.
-- The lines that were read and clocked, and why the next one was not.
use Rattle.std.specs.Prelude.{◌≡◌, ℕ, ◌*◌, ◌<◌, List, length, slice_index, take, Ok, Err, Result, OnOk, IfErr}
use Rattle.std.specs.Io.KnownBytes.{prepend_known}
use Rattle.dk_desk.specs.Outside.{Outside, Input}
use Rattle.wiring.specs.Netlist.{Netlist}
use Rattle.wiring.specs.Snapshot.{Contents}
use Rattle.pgm_codec.specs.declared.header.Header.{Header}
use Rattle.pgm_codec.specs.Rasters.{AllFit, JudgesRow, sample_at, row_length}
use Rattle.row_stream.specs.declared.line.Line.{Line}
use Rattle.row_stream.specs.declared.rows.RowsFault.{RowsFault}
use Rattle.row_stream.specs.declared.rows.RowsFault.TheVariants.{Raster, Read, Write}
use Rattle.row_stream.specs.Lines.{Kind}
use Rattle.row_stream.specs.Progress.{Goes, Fails, pixel_clocks}
use Rattle.row_stream.specs.Calls.{OnlyReads}
use Rattle.row_stream.specs.Rows.{IsRowFault}

-- the numbers at the din for a raster
abbrev pub samples_in : (maxval : ℕ) → List ℕ → ℕ → ℕ
samples_in maxval raster k = sample_at maxval raster k

-- A line was read whole, and is in order.
pub record TakesRow (header : Header) (row : ℕ) (read : List ℕ) (old new : Input) : Type 0 where
  pub given : old.rest ≡ prepend_known read new.rest
  pub judged : JudgesRow read header row (Ok tt)
  pub bytes : (k : ℕ) → slice_index read k < 256

-- `rows` whole lines of an image were read and are in order.
pub record AreRows (header : Header) (rows : ℕ) (raster : List ℕ) : Type 0 where
  pub length_is : length raster ≡ rows * row_length header
  pub fit : AllFit header.maxval raster
  pub bytes : (k : ℕ) → slice_index raster k < 256

-- `rows` lines were read and clocked.
pub record Streams (kind : Kind) (m : Netlist) (header : Header) (rows : ℕ) (from to : Contents) (old new : Line) (before now : Outside) : Type 0 where
  pub raster : List ℕ
  pub are : AreRows header rows raster
  pub given : before.image.rest ≡ prepend_known raster now.image.rest
  pub goes : Goes kind m (pixel_clocks (samples_in header.maxval raster) (rows * header.width)) from to old new before now

-- The lines before were streamed, and the next one was not read.
pub record EndsReading (kind : Kind) (m : Netlist) (header : Header) (f : RowsFault) (from : Contents) (old : Line) (before now : Outside) : Type 0 where
  pub rows : ℕ
  pub inside : rows < header.height
  pub to : Contents
  pub new : Line
  pub half : Outside
  pub streams : Streams kind m header rows from to old new before half
  pub fault : IsRowFault header rows f half.image now.image
  pub only : now ≡ record half { image = record half.image { rest = now.image.rest }; input_failures = now.input_failures }

-- The lines before were streamed, the next one was read and is in order, and in its clocks a line is whole that can't be written.
pub record EndsWriting (kind : Kind) (m : Netlist) (header : Header) (from : Contents) (old : Line) (before now : Outside) : Type 0 where
  pub rows : ℕ
  pub inside : rows < header.height
  pub mid : Contents
  pub between : Line
  pub half : Outside
  pub read : Outside
  pub streams : Streams kind m header rows from mid old between before half
  pub row : List ℕ
  pub are : AreRows header 1 row
  pub given : half.image.rest ≡ prepend_known row now.image.rest
  pub only : read ≡ record half { image = record half.image { rest = read.image.rest } }
  pub fails : Fails kind m (pixel_clocks (samples_in header.maxval row) header.width) mid between read now

abbrev pub EndsRows : Kind → Netlist → Header → RowsFault → Contents → Line → (before now : Outside) → Type 0
EndsRows kind m header (Raster f) from old before now = EndsReading kind m header (Raster f) from old before now
EndsRows kind m header Read from old before now = EndsReading kind m header Read from old before now
EndsRows kind m header Write from old before now = EndsWriting kind m header from old before now

-- The line was read and is in order, and in its clocks a line is whole that can't be written.
pub record FailsRow (kind : Kind) (m : Netlist) (header : Header) (from : Contents) (old : Line) (before now : Outside) : Type 0 where
  pub read : Outside
  pub row : List ℕ
  pub are : AreRows header 1 row
  pub given : before.image.rest ≡ prepend_known row now.image.rest
  pub only : read ≡ record before { image = record before.image { rest = read.image.rest } }
  pub fails : Fails kind m (pixel_clocks (samples_in header.maxval row) header.width) from old read now

-- The line was not read.
pub record MissesRow (header : Header) (row : ℕ) (f : RowsFault) (before now : Outside) : Type 0 where
  pub fault : IsRowFault header row f before.image now.image
  pub only : now ≡ record before { image = record before.image { rest = now.image.rest }; input_failures = now.input_failures }

abbrev pub EndsRow : Kind → Netlist → Header → (row : ℕ) → RowsFault → Contents → Line → (before now : Outside) → Type 0
EndsRow kind m header row (Raster f) from old before now = MissesRow header row (Raster f) before now
EndsRow kind m header row Read from old before now = MissesRow header row Read before now
EndsRow kind m header row Write from old before now = FailsRow kind m header from old before now

-- A line of an image that was read into these bytes, or the fault that was met.
pub record ReadsRow (result : Result (Unit {0}) RowsFault) (header : Header) (row : ℕ) (bytes filled : List ℕ) (before now : Outside) : Type 0 where
  -- there are as many bytes as before
  pub room : length filled ≡ length bytes
  -- Ok: the first of them are the line, which is in order
  pub ok : OnOk result (TakesRow header row (take (row_length header) filled) before.image now.image)
  -- else it was not read whole, or is not in order
  pub fault : IfErr result (λ e. IsRowFault header row e before.image now.image)
  -- of the desk only Image was read
  pub desk : OnlyReads (result ≡ Err Read) before now
