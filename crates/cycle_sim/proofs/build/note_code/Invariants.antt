use Rattle.std.proofs.Common.{take}
use Rattle.wiring.specs.Netlist.{netlist_of}
use Rattle.cycle_sim.specs.Code.{IsCode}
use Rattle.cycle_sim.proofs.build.note_code.Given as goal

abbrev pub invariant-loop-number : goal.invariant-loop-number
invariant-loop-number l = IsCode (netlist_of l.wiring) (take l.number-index l.order) l.code.items
