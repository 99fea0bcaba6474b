use Rattle.std.proofs.Common.{take}
use Rattle.std.specs.Prelude.{All}
use Rattle.wiring.specs.declared.netlist.Assign.{Assign}
use Rattle.wiring.specs.BufferBits.{assign_drive}
use Rattle.wiring.specs.Marks.{IsClosed}
use Rattle.wiring.proofs.buffer.open_assign.Given as goal

abbrev pub invariant-loop-assign : goal.invariant-loop-assign
invariant-loop-assign l = All (λ (x : Assign). IsClosed l.marks (assign_drive x)) (take l.assign-index l.assigns)
