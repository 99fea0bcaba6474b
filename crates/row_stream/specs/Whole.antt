-- The state after a whole stream.
use Rattle.std.specs.Prelude.{◌≡◌, ℕ, ◌+◌, ◌*◌, ◌<◌, ◌≤◌, false, List, [], ◌∷◌, ◌++◌, length, map, take, replicate, Option, Some}
use Rattle.std.specs.List.{AllByRecursion}
use Rattle.std.specs.Io.KnownBytes.{prepend_known, IsAtEnd}
use Rattle.dk_base.specs.declared.TheConstants.{MAX_FILE_IMAGES}
use Rattle.dk_desk.specs.declared.Stage.TheVariants.{Open, Refused}
use Rattle.dk_desk.specs.declared.OutSlot.TheVariants.{File}
use Rattle.dk_desk.specs.Outside.{Outside}
use Rattle.dk_desk.specs.Calls.{IsIfTold, CreatesOnly, WritesFront, with_created}
use Rattle.wiring.specs.Netlist.{Netlist}
use Rattle.wiring.specs.Snapshot.{Contents, Snapshot}
use Rattle.wiring.specs.Clock.{Clock}
use Rattle.wiring.specs.Runs.{Runs, picture}
use Rattle.pgm_codec.specs.declared.header.Header.{Header}
use Rattle.pgm_codec.specs.Answers.{Reads}
use Rattle.pgm_codec.specs.Images.{Image, AreImages, IsRaster}
use Rattle.pgm_rounds.specs.declared.fault.FileFault.{FileFault}
use Rattle.pgm_rounds.specs.Files.{FitsFile, IsFault}
use Rattle.row_stream.specs.declared.line.Line.{Line}
use Rattle.row_stream.specs.declared.line.OutputFormat.{OutputFormat}
use Rattle.row_stream.specs.declared.state.Stream.{Stream}
use Rattle.cycle_sim.specs.declared.fill.Fill.TheVariants.{Zeros}
use Rattle.cycle_sim.specs.Filled.{filled_contents}
use Rattle.row_stream.specs.declared.faults.StreamFault.{StreamFault}
use Rattle.row_stream.specs.declared.faults.StreamFault.TheVariants.{Image as ImageFails, Read, Write}
use Rattle.row_stream.specs.Lines.{Kind, head, line_at, lines}
use Rattle.row_stream.specs.Moving.{Gains, GainsBut}
use Rattle.row_stream.specs.Standing.{HasRoom, Starts, note_of, pixel_clock, reset_clock}
use Rattle.row_stream.specs.Batches.{HasBatch}
use Rattle.row_stream.specs.States.{IsStream}
use Rattle.row_stream.specs.Heads.{FitsHeader, TakesHead, EndsHeading}
use Rattle.row_stream.specs.Rows.{IsLineFault}
use Rattle.row_stream.specs.Images.{FitsImage, samples_of}
use Rattle.row_stream.specs.Ends.{one_port, greatest, EndsNext}

-- a line of which there is nothing yet
pub record IsFresh (line : Line) : Type 0 where
  pub bytes : line.bytes.items ≡ []
  pub count : line.count ≡ 0
  pub rows : line.rows ≡ 0

-- A stream of this module as it is made: its registers and memories are zero, and nothing was read or made. There is room for a line that is read, its clocks and one that is made.
pub record IsMade (m : Netlist) (format : OutputFormat) (bits : ℕ) (s : Stream) : Type 0 where
  pub format_is : s.format ≡ format
  pub bits_is : s.bits ≡ bits
  pub netlist : s.sim.netlist ≡ m
  pub contents : s.sim.contents ≡ filled_contents Zeros m
  pub fresh : IsFresh s.line
  pub room : HasRoom s.format.size.width s.line
  pub row : length s.row.items ≡ 2 * s.format.size.width
  pub batch : HasBatch s.format.size.width s.batch

-- A stream before its first clock. A reset clock does not stop, and after it no clock stops.
pub record IsStart (s : Stream) : Type 0 where
  pub stream : IsStream s
  pub fresh : IsFresh s.line
  pub starts : Starts s.sim.netlist s.sim.contents

-- File was created under this name, empty. Of Image only what is left has changed, and nothing else.
pub record Creates (name : List ℕ) (old created : Outside) : Type 0 where
  pub only : created ≡ record old { image = record old.image { rest = created.image.rest }; file = created.file; files = created.files }
  pub stage : created.file.stage ≡ Open
  pub named : IsIfTold created.file.name (Some name)
  pub empty : IsIfTold created.file.bytes (Some [])
  pub files : IsIfTold created.files (with_created old.files created.file)

-- a reset clock, and then a clock for each of these numbers at the din
abbrev pub drive : List ℕ → List Clock
drive samples = reset_clock ∷ map (λ s. pixel_clock s) samples

-- The module went through these clocks. File has the header and all lines that are whole in the picture that it shows, and each clock is noted.
pub record Shows (kind : Kind) (m : Netlist) (from : Contents) (clocks : List Clock) (created now : Outside) : Type 0 where
  pub shots : List Snapshot
  pub to : Contents
  pub runs : Runs m from clocks shots to
  pub rows : ℕ
  pub whole : rows * kind.size.width ≤ length (picture 0 shots)
  pub last : length (picture 0 shots) < (rows + 1) * kind.size.width
  pub gained : Gains created (head kind ++ lines kind (picture 0 shots) rows) (map note_of shots) now

-- The module went through the first of these clocks, and the write of the line failed that is whole with some of the later ones. File has all lines before it and a front of it.
pub record FailsShowing (kind : Kind) (m : Netlist) (from : Contents) (clocks later : List Clock) (created now : Outside) : Type 0 where
  pub made : ℕ
  pub some : 0 < made
  pub within : made ≤ length later
  pub shots : List Snapshot
  pub to : Contents
  pub runs : Runs m from (clocks ++ take made later) shots to
  pub row : ℕ
  pub whole : length (picture 0 shots) ≡ (row + 1) * kind.size.width
  pub count : ℕ
  pub inside : count < length (line_at kind (picture 0 shots) row)
  pub gained : GainsBut created (head kind ++ (lines kind (picture 0 shots) row ++ take count (line_at kind (picture 0 shots) row))) (map note_of shots) now

-- All that there was begins with `count` images, which were clocked.
pub record ShowsImages (kind : Kind) (m : Netlist) (bits count : ℕ) (all : Option (List ℕ)) (from : Contents) (created now : Outside) : Type 0 where
  pub images : List Image
  pub bytes : List ℕ
  pub are : AreImages bytes images
  pub fit : AllByRecursion (FitsImage kind.size (greatest bits)) images
  pub count_is : length images ≡ count
  pub given : all ≡ prepend_known bytes now.image.rest
  pub shows : Shows kind m from (drive (samples_of images)) created now

-- All that there was begins with `count` images, the header of one more and `rows` of its lines. The images and the lines were clocked.
pub record ShowsLines (kind : Kind) (m : Netlist) (bits count : ℕ) (header : Header) (rows : ℕ) (all : Option (List ℕ)) (from : Contents) (created now : Outside) : Type 0 where
  pub images : List Image
  pub bytes : List ℕ
  pub are : AreImages bytes images
  pub fit : AllByRecursion (FitsImage kind.size (greatest bits)) images
  pub count_is : length images ≡ count
  pub head : List ℕ
  pub reads : Reads head header
  pub exact : length head ≡ header.length
  pub raster : List ℕ
  pub samples : List ℕ
  pub is_raster : IsRaster raster header.width rows header.maxval samples
  pub given : all ≡ prepend_known (bytes ++ (head ++ raster)) now.image.rest
  pub shows : Shows kind m from (drive (samples_of images ++ samples)) created now

-- A file of images, each of them a round, was streamed to its end, and `latency` clocks with 0 at the din came after it.
pub record LeavesAll (kind : Kind) (m : Netlist) (bits latency : ℕ) (name : List ℕ) (from : Contents) (old now : Outside) : Type 0 where
  pub created : Outside
  pub creates : Creates name old created
  pub images : List Image
  pub bytes : List ℕ
  pub are : AreImages bytes images
  pub fit : AllByRecursion (FitsImage kind.size (greatest bits)) images
  pub some : 0 < length images
  pub few : length images ≤ MAX_FILE_IMAGES
  pub given : old.image.rest ≡ prepend_known bytes now.image.rest
  pub end : IsAtEnd now.image.rest
  pub whole : (file : List ℕ) → old.image.rest ≡ Some file → FitsFile (one_port kind.size bits) file (map (λ image. image ∷ []) images)
  pub shows : Shows kind m from (drive (samples_of images ++ replicate latency 0)) created now

-- The next image was not begun.
pub record LeavesBehind (kind : Kind) (m : Netlist) (bits : ℕ) (fault : StreamFault) (all : Option (List ℕ)) (from : Contents) (created now : Outside) : Type 0 where
  pub count : ℕ
  pub some : 0 < count
  pub half : Outside
  pub taken : ShowsImages kind m bits count all from created half
  pub why : EndsNext kind.size bits count (length taken.bytes) fault half.image now.image
  pub only : now ≡ record half { image = record half.image { rest = now.image.rest }; input_failures = now.input_failures }

-- The next line of an image was not read, or is not in order.
pub record LeavesInside (kind : Kind) (m : Netlist) (bits : ℕ) (fault : StreamFault) (all : Option (List ℕ)) (from : Contents) (created now : Outside) : Type 0 where
  pub count : ℕ
  pub few : count < MAX_FILE_IMAGES
  pub header : Header
  pub fits : FitsHeader kind.size bits header
  pub rows : ℕ
  pub inside : rows < header.height
  pub half : Outside
  pub taken : ShowsLines kind m bits count header rows all from created half
  pub why : IsLineFault header rows fault half.image now.image
  pub only : now ≡ record half { image = record half.image { rest = now.image.rest }; input_failures = now.input_failures }

-- The next line of an image was read and is in order, and in its clocks a line is whole that can't be written.
pub record FailsInside (kind : Kind) (m : Netlist) (bits : ℕ) (all : Option (List ℕ)) (from : Contents) (created now : Outside) : Type 0 where
  pub count : ℕ
  pub few : count < MAX_FILE_IMAGES
  pub header : Header
  pub fits : FitsHeader kind.size bits header
  pub rows : ℕ
  pub inside : rows < header.height
  pub half : Outside
  pub taken : ShowsLines kind m bits count header rows all from created half
  pub row : List ℕ
  pub samples : List ℕ
  pub is_row : IsRaster row header.width 1 header.maxval samples
  pub given : half.image.rest ≡ prepend_known row now.image.rest
  pub fails : FailsShowing kind m from (drive (samples_of taken.images ++ taken.samples)) (map (λ s. pixel_clock s) samples) created now

-- All images were streamed, and in the clocks after them a line is whole that can't be written.
pub record FailsBehind (kind : Kind) (m : Netlist) (bits latency : ℕ) (all : Option (List ℕ)) (from : Contents) (created now : Outside) : Type 0 where
  pub images : List Image
  pub bytes : List ℕ
  pub are : AreImages bytes images
  pub fit : AllByRecursion (FitsImage kind.size (greatest bits)) images
  pub some : 0 < length images
  pub few : length images ≤ MAX_FILE_IMAGES
  pub given : all ≡ prepend_known bytes now.image.rest
  pub end : IsAtEnd now.image.rest
  pub fails : FailsShowing kind m from (drive (samples_of images)) (map (λ s. pixel_clock s) (replicate latency 0)) created now

-- How far a file was streamed before its first fault, or before a read that failed.
pub data LeavesEarly (kind : Kind) (m : Netlist) (bits : ℕ) (fault : StreamFault) (name : List ℕ) (from : Contents) (old now : Outside) : Type 0 where
  -- in the first header, and nothing was created
  at_start : EndsHeading kind.size bits 0 false fault old.image now.image → now ≡ record old { image = record old.image { rest = now.image.rest }; input_failures = now.input_failures } → LeavesEarly kind m bits fault name from old now
  behind : (created : Outside) → Creates name old created → LeavesBehind kind m bits fault old.image.rest from created now → LeavesEarly kind m bits fault name from old now
  inside : (created : Outside) → Creates name old created → LeavesInside kind m bits fault old.image.rest from created now → LeavesEarly kind m bits fault name from old now

-- why File can't be begun, after the first header of Image
pub data FailsFirst (kind : Kind) (m : Netlist) (name : List ℕ) (from : Contents) (before now : Outside) : Type 0 where
  at_create : now.file.stage ≡ Refused → IsIfTold now.file.name (Some name) → now.files ≡ before.files → CreatesOnly before now → FailsFirst kind m name from before now
  at_head : (created : Outside) → Creates name before created → WritesFront File created (head kind) now → FailsFirst kind m name from before now
  at_reset : (created : Outside) → Creates name before created → FailsShowing kind m from [] (reset_clock ∷ []) created now → FailsFirst kind m name from before now

-- how far a file was streamed when a create or a write failed
pub data LeavesAtWrite (kind : Kind) (m : Netlist) (bits latency : ℕ) (name : List ℕ) (from : Contents) (old now : Outside) : Type 0 where
  write_first : (header : Header) (before : Outside) → TakesHead header old.image before.image → FitsHeader kind.size bits header → before ≡ record old { image = record old.image { rest = before.image.rest } } → now.image ≡ before.image
      → FailsFirst kind m name from before now → LeavesAtWrite kind m bits latency name from old now
  write_inside : (created : Outside) → Creates name old created → FailsInside kind m bits old.image.rest from created now → LeavesAtWrite kind m bits latency name from old now
  write_behind : (created : Outside) → Creates name old created → FailsBehind kind m bits latency old.image.rest from created now → LeavesAtWrite kind m bits latency name from old now

-- It is the first fault of the file, all lines before it were streamed, and no read failed.
pub record StopsAtFault (kind : Kind) (m : Netlist) (bits : ℕ) (fault : FileFault) (name : List ℕ) (from : Contents) (old now : Outside) : Type 0 where
  pub leaves : LeavesEarly kind m bits (ImageFails fault) name from old now
  pub no_failure : now.input_failures ≡ old.input_failures
  pub first : (file : List ℕ) → old.image.rest ≡ Some file → IsFault (one_port kind.size bits) file fault

-- the state after a stream that ended early
abbrev pub Leaves : Kind → Netlist → (bits latency : ℕ) → StreamFault → (name : List ℕ) → Contents → (old now : Outside) → Type 0
Leaves kind m bits latency (ImageFails fault) name from old now = StopsAtFault kind m bits fault name from old now
Leaves kind m bits latency Read name from old now = LeavesEarly kind m bits Read name from old now
Leaves kind m bits latency Write name from old now = LeavesAtWrite kind m bits latency name from old now
