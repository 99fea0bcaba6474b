use Rattle.std.proofs.Common.{take}
use Rattle.std.specs.Prelude.{All}
use Rattle.wiring.specs.declared.netlist.Update.{Update}
use Rattle.wiring.specs.BufferBits.{update_drive}
use Rattle.wiring.specs.Marks.{IsClosed}
use Rattle.wiring.proofs.buffer.open_update.Given as goal

abbrev pub invariant-loop-update : goal.invariant-loop-update
invariant-loop-update l = All (λ (x : Update). IsClosed l.marks (update_drive x)) (take l.update-index l.updates)
