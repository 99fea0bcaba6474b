-- Used by private functions only.
-- What the clocks of a line show.
use Rattle.std.specs.Prelude.{ℕ, ◌<◌, ◌≤◌, Bool, List, ◌++◌, length, take, map, Result, OnOk, OnErr, IsErr}
use Rattle.std.specs.List.{flat_map}
use Rattle.cycle_sim.specs.declared.ports.Out.{Out}
use Rattle.dk_desk.specs.Outside.{Outside}
use Rattle.row_stream.specs.declared.line.Line.{Line}
use Rattle.row_stream.specs.declared.line.OutputFormat.{OutputFormat}
use Rattle.row_stream.specs.Lines.{Kind}
use Rattle.row_stream.specs.Formats.{kind_of}
use Rattle.row_stream.specs.Calls.{OnlyWrites}
use Rattle.row_stream.specs.States.{CanAddMore}
use Rattle.row_stream.specs.Progress.{Writes, FailsInLine, sample_of}

-- what is noted of an output
abbrev pub pair_of : Out → Bool × ℕ
pair_of out = (out.valid, out.dout)

-- What the output shows in these clocks was noted and added to the samples, of which the whole lines are written.
pub record Tells (kind : Kind) (outs : List Out) (old new : Line) (before now : Outside) : Type 0 where
  pub writes : (start : Outside) (samples : List ℕ) (notes : List (Bool × ℕ)) → Writes kind start samples notes old before → Writes kind start (samples ++ flat_map sample_of outs) (notes ++ map pair_of outs) new now

-- In one of these clocks, the last that is noted, a line is whole that can't be written.
pub record FailsTelling (kind : Kind) (outs : List Out) (old : Line) (before now : Outside) : Type 0 where
  pub made : ℕ
  pub some : 0 < made
  pub within : made ≤ length outs
  pub fails : (start : Outside) (samples : List ℕ) (notes : List (Bool × ℕ)) → Writes kind start samples notes old before → FailsInLine kind start (samples ++ flat_map sample_of (take made outs)) (notes ++ map pair_of (take made outs)) now

-- What the output shows in these clocks was noted and added, or a write failed.
pub record TellsOrFails {T E : Type 0} (result : Result T E) (format : OutputFormat) (outs : List Out) (old new : Line) (before now : Outside) : Type 0 where
  pub more : OnOk result (CanAddMore (length outs) format old new now)
  pub ok : OnOk result (Tells (kind_of format) outs old new before now)
  pub err : OnErr result (FailsTelling (kind_of format) outs old before now)
  pub desk : OnlyWrites (IsErr result) before now
