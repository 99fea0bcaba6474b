-- Used by private functions only.
-- What was clocked, noted and written so far.
use Rattle.std.specs.Prelude.{◌≡◌, ℕ, ◌+◌, ◌*◌, ◌<◌, ◌≤◌, Bool, List, [], ◌∷◌, ◌++◌, length, take, drop, map, if◌then◌else◌}
use Rattle.wiring.specs.Netlist.{Netlist}
use Rattle.std.specs.List.{range_with_len}
use Rattle.wiring.specs.Snapshot.{Contents, Snapshot}
use Rattle.wiring.specs.Clock.{Clock}
use Rattle.wiring.specs.Runs.{Runs, picture}
use Rattle.cycle_sim.specs.declared.ports.Out.{Out}
use Rattle.pgm_codec.specs.Images.{raster_of}
use Rattle.dk_desk.specs.Outside.{Outside}
use Rattle.row_stream.specs.declared.line.Line.{Line}
use Rattle.row_stream.specs.Lines.{Kind, line_at, lines}
use Rattle.row_stream.specs.Moving.{Gains, GainsBut}
use Rattle.row_stream.specs.Standing.{note_of, pixel_clock}

-- the samples that are shown and not yet written, of a line that is begun
pub record IsPending (kind : Kind) (samples : List ℕ) (line : Line) : Type 0 where
  pub count : length samples ≡ line.rows * kind.size.width + line.count
  pub below : line.count < kind.size.width
  pub bytes : line.bytes.items ≡ raster_of kind.maxval (drop (line.rows * kind.size.width) samples)

-- The whole lines of these samples were written, and the rest of them is pending.
pub record Writes (kind : Kind) (start : Outside) (samples : List ℕ) (notes : List (Bool × ℕ)) (line : Line) (now : Outside) : Type 0 where
  pub pending : IsPending kind samples line
  pub gained : Gains start (lines kind samples line.rows) notes now

-- A write failed in the last line of these samples; all lines before it were written.
pub record FailsInLine (kind : Kind) (start : Outside) (samples : List ℕ) (notes : List (Bool × ℕ)) (now : Outside) : Type 0 where
  pub row : ℕ
  pub whole : length samples ≡ (row + 1) * kind.size.width
  pub count : ℕ
  pub within : count < length (line_at kind samples row)
  pub gained : GainsBut start (lines kind samples row ++ take count (line_at kind samples row)) notes now

-- what an output adds to its picture
abbrev pub sample_of : Out → List ℕ
sample_of out = if out.valid then out.dout ∷ [] else []

-- The module goes through these clocks. What the output shows in them is added to the samples, of which the whole lines are written.
pub record Goes (kind : Kind) (m : Netlist) (clocks : List Clock) (from to : Contents) (old new : Line) (before now : Outside) : Type 0 where
  pub shots : List Snapshot
  pub runs : Runs m from clocks shots to
  pub writes : (start : Outside) (samples : List ℕ) (notes : List (Bool × ℕ)) → Writes kind start samples notes old before → Writes kind start (samples ++ picture 0 shots) (notes ++ map note_of shots) new now

-- In one of these clocks a line is whole that can't be written.
pub record Fails (kind : Kind) (m : Netlist) (clocks : List Clock) (from : Contents) (old : Line) (before now : Outside) : Type 0 where
  pub made : ℕ
  pub within : made ≤ length clocks
  pub some : 0 < made
  pub shots : List Snapshot
  pub to : Contents
  pub runs : Runs m from (take made clocks) shots to
  pub fails : (start : Outside) (samples : List ℕ) (notes : List (Bool × ℕ)) → Writes kind start samples notes old before → FailsInLine kind start (samples ++ picture 0 shots) (notes ++ map note_of shots) now

-- `count` clocks, with these numbers at the din
abbrev pub pixel_clocks : (ℕ → ℕ) → ℕ → List Clock
pixel_clocks f count = map (λ k. pixel_clock (f k)) (range_with_len 0 count)

-- These samples are added to those before, and the lines that are whole then are written.
abbrev pub AddsSamples : Kind → (more : List ℕ) → (old new : Line) → (before now : Outside) → Type 0
AddsSamples kind more old new before now = (start : Outside) (samples : List ℕ) (notes : List (Bool × ℕ)) → Writes kind start samples notes old before → Writes kind start (samples ++ more) notes new now

-- These samples are added to those before, and the write of the line failed that is whole with the last of them.
abbrev pub FailsAdding : Kind → (more : List ℕ) → Line → (before now : Outside) → Type 0
FailsAdding kind more old before now = (start : Outside) (samples : List ℕ) (notes : List (Bool × ℕ)) → Writes kind start samples notes old before → FailsInLine kind start (samples ++ more) notes now
