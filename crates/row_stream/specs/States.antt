-- The state of a stream between two calls.
use Rattle.std.specs.Prelude.{◌≡◌, ℕ, ◌+◌, ◌-◌, ◌*◌, ◌^◌, ◌<◌, ◌≤◌, List, [], ◌∷◌, length, take, Result, OnOk, OnErr, IfErr, IsErr, Err}
use Rattle.dk_base.specs.declared.TheConstants.{MAX_PORT_WIDTH}
use Rattle.dk_base.specs.FrameSizes.{size_of}
use Rattle.dk_desk.specs.declared.Stage.TheVariants.{Open}
use Rattle.dk_desk.specs.Outside.{Outside}
use Rattle.wiring.specs.Netlist.{Netlist}
use Rattle.wiring.specs.Snapshot.{Fit}
use Rattle.wiring.specs.Clock.{Clock}
use Rattle.cycle_sim.specs.Ports.{din_widths}
use Rattle.pgm_codec.specs.declared.header.Header.{Header}
use Rattle.pgm_codec.specs.Rasters.{row_length}
use Rattle.row_stream.specs.declared.line.Line.{Line}
use Rattle.row_stream.specs.declared.line.OutputFormat.{OutputFormat}
use Rattle.row_stream.specs.declared.rows.RowsFault.{RowsFault}
use Rattle.row_stream.specs.declared.state.Stream.{Stream}
use Rattle.row_stream.specs.Lines.{Kind}
use Rattle.row_stream.specs.Formats.{kind_of}
use Rattle.row_stream.specs.Standing.{HasRoom, IsOneToOne, Lasts}
use Rattle.row_stream.specs.Batches.{HasBatch}
use Rattle.row_stream.specs.Heads.{FitsHeader}
use Rattle.row_stream.specs.Calls.{OnlyWrites, ReadsAndWrites}
use Rattle.row_stream.specs.Progress.{AddsSamples, FailsAdding, Goes, Fails, pixel_clocks}
use Rattle.row_stream.specs.RowReading.{samples_in, EndsRow, EndsRows, Streams}

-- Samples can be added: File is open, and there is room for the rest of the line that is begun.
pub record CanAdd (format : OutputFormat) (line : Line) (o : Outside) : Type 0 where
  pub created : o.file.stage ≡ Open
  pub room : HasRoom format.size.width line
  pub some : 0 < format.maxval

-- More samples can be added. At most `most` lines were made since `old`.
pub record CanAddMore (most : ℕ) (format : OutputFormat) (old new : Line) (now : Outside) : Type 0 where
  pub created : now.file.stage ≡ Open
  pub room : HasRoom format.size.width new
  pub few : new.rows ≤ old.rows + most

-- These samples were added, and the line that is whole then was written, or its write failed.
pub record AddsOrFails {T E : Type 0} (result : Result T E) (format : OutputFormat) (samples : List ℕ) (old new : Line) (before now : Outside) : Type 0 where
  pub more : OnOk result (CanAddMore 1 format old new now)
  pub ok : OnOk result (AddsSamples (kind_of format) samples old new before now)
  pub err : OnErr result (FailsAdding (kind_of format) samples old before now)
  pub desk : OnlyWrites (IsErr result) before now

-- What no call of a stream changes: the images that are written, the module, and the width of its din.
pub record Setting : Type 0 where
  pub kind : Kind
  pub netlist : Netlist
  pub bits : ℕ

abbrev pub setting_of : Stream → Setting
setting_of s = record { kind = kind_of s.format; netlist = s.sim.netlist; bits = s.bits }

-- The module has one din and one output, and each sample of the input fits the din. There is room for a line that is read, its clocks and one that is made.
pub record IsStream (s : Stream) : Type 0 where
  pub bits : s.bits ≤ MAX_PORT_WIDTH
  pub one : IsOneToOne (kind_of s.format) s.sim.netlist
  pub fit : (x : ℕ) → x ≤ 2 ^ s.bits - 1 → Fit (din_widths s.sim.netlist) (x ∷ [])
  pub room : HasRoom s.format.size.width s.line
  pub row : length s.row.items ≡ 2 * s.format.size.width
  pub batch : HasBatch s.format.size.width s.batch

-- Clocks can be made: File is open, and no clock stops.
pub record IsReady (s : Stream) (o : Outside) : Type 0 where
  pub stream : IsStream s
  pub created : o.file.stage ≡ Open
  pub lasts : Lasts s.sim.netlist s.sim.contents

-- The lines of an image with this header can be read and clocked. Fewer lines than `most` were made so far.
pub record CanStream (most : ℕ) (s : Stream) (next : Header) (o : Outside) : Type 0 where
  pub opened : o.image.stage ≡ Open
  pub ready : IsReady s o
  pub few : s.line.rows < most
  pub header : FitsHeader (size_of s.format.size) s.bits next

-- What every call keeps, also one that fails.
pub record Keeps (old new : Stream) : Type 0 where
  pub setting : setting_of new ≡ setting_of old
  pub row : length new.row.items ≡ length old.row.items
  pub batch : HasBatch old.format.size.width new.batch

-- The next clocks can be made. At most `most` lines were made since `old`.
pub record CanGoOn (most : ℕ) (old new : Stream) (now : Outside) : Type 0 where
  pub ready : IsReady new now
  pub few : new.line.rows ≤ old.line.rows + most

-- The module of the stream goes through these clocks, and what it shows is noted and written.
abbrev pub GoesThrough : List Clock → (old new : Stream) → (before now : Outside) → Type 0
GoesThrough clocks old new before now = Goes (kind_of old.format) old.sim.netlist clocks old.sim.contents new.sim.contents old.line new.line before now

-- In one of these clocks a line is whole that can't be written.
abbrev pub FailsWithin : List Clock → Stream → (before now : Outside) → Type 0
FailsWithin clocks old before now = Fails (kind_of old.format) old.sim.netlist clocks old.sim.contents old.line before now

-- The module goes through these clocks, or a write fails in one of them. At most `most` lines are made.
pub record ClocksOrFails {T E : Type 0} (result : Result T E) (most : ℕ) (clocks : List Clock) (old new : Stream) (before now : Outside) : Type 0 where
  pub keeps : Keeps old new
  pub more : OnOk result (CanGoOn most old new now)
  pub ok : OnOk result (GoesThrough clocks old new before now)
  pub err : OnErr result (FailsWithin clocks old before now)
  pub desk : OnlyWrites (IsErr result) before now

-- the line that was read, as an image with this header has it
abbrev pub row_of : Header → Stream → List ℕ
row_of header s = take (row_length header) s.row.items

-- a clock for each sample of that line
abbrev pub row_clocks : Header → Stream → List Clock
row_clocks header s = pixel_clocks (samples_in header.maxval (row_of header s)) s.format.size.width

-- A sample can be added: there is room for it, it is at most the greatest, and the lines so far are few.
pub record CanShow (format : OutputFormat) (line : Line) (o : Outside) (sample : ℕ) : Type 0 where
  -- there is room
  pub can : CanAdd format line o
  -- it is at most the greatest
  pub dout : sample ≤ format.maxval
  -- the count of lines stays below 2^64
  pub few : line.rows < 2 ^ 63

-- Clocks can be made, and fewer lines than this were made so far.
pub record IsReadyFor (most : ℕ) (s : Stream) (o : Outside) : Type 0 where
  -- they can be made
  pub ready : IsReady s o
  -- the count of lines stays below 2^64
  pub few : s.line.rows < most

-- `rows` lines of an image with this header were read and clocked by the stream.
abbrev pub StreamsLines : Header → (rows : ℕ) → (old new : Stream) → (before now : Outside) → Type 0
StreamsLines header rows old new before now = Streams (kind_of old.format) old.sim.netlist header rows old.sim.contents new.sim.contents old.line new.line before now

-- why the line of this number was not streamed
abbrev pub EndsAtRow : Header → (row : ℕ) → Stream → RowsFault → (before now : Outside) → Type 0
EndsAtRow header row old f before now = EndsRow (kind_of old.format) old.sim.netlist header row f old.sim.contents old.line before now

-- why not all lines of an image were streamed
abbrev pub EndsInRows : Header → Stream → RowsFault → (before now : Outside) → Type 0
EndsInRows header old f before now = EndsRows (kind_of old.format) old.sim.netlist header f old.sim.contents old.line before now

-- Lines of an image with this header were read and clocked by the stream, or it ended in them. The two faults are those of a read and of a write.
pub record StreamsOrEnds {E : Type 0} (result : Result (Unit {0}) E) (reading writing : E) (ends : E → Type 0) (header : Header) (rows most : ℕ) (old new : Stream) (before now : Outside) : Type 0 where
  -- what every call keeps
  pub keeps : Keeps old new
  -- Ok: the next clocks can be made, and at most `most` lines were made
  pub more : OnOk result (CanGoOn most old new now)
  -- Ok: all of the lines were streamed
  pub ok : OnOk result (StreamsLines header rows old new before now)
  -- else this is why not
  pub err : IfErr result ends
  -- a failed read or write is answered only where there was one
  pub desk : ReadsAndWrites (result ≡ Err reading) (result ≡ Err writing) before now
