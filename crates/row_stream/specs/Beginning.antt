-- Used by private functions only.
-- How a stream begins.
use Rattle.std.specs.Prelude.{ℕ, List, [], ◌∷◌}
use Rattle.dk_desk.specs.declared.OutSlot.TheVariants.{File}
use Rattle.dk_desk.specs.Outside.{Outside}
use Rattle.dk_desk.specs.Calls.{AddsToFile}
use Rattle.wiring.specs.Netlist.{Netlist}
use Rattle.wiring.specs.Snapshot.{Contents}
use Rattle.row_stream.specs.declared.line.Line.{Line}
use Rattle.row_stream.specs.Lines.{Kind, head}
use Rattle.row_stream.specs.Standing.{reset_clock}
use Rattle.row_stream.specs.Progress.{Goes}
use Rattle.row_stream.specs.Whole.{Creates}

-- File was created, its header written, and the reset clock made.
pub record Begins (kind : Kind) (m : Netlist) (name : List ℕ) (from to : Contents) (old new : Line) (before now : Outside) : Type 0 where
  pub created : Outside
  pub creates : Creates name before created
  pub begun : Outside
  pub header : AddsToFile created (head kind) begun
  pub goes : Goes kind m (reset_clock ∷ []) from to old new begun now
