use Rattle.std.proofs.Common.{◌≡◌, take, map}
use Rattle.wiring.specs.Netlist.{netlist_of}
use Rattle.wiring.specs.Snapshot.{accesses_of}
use Rattle.cycle_sim.specs.Edge.{access, assign_accesses_of}
use Rattle.cycle_sim.proofs.build.assign_accesses.Given as goal

abbrev pub invariant-loop-a : goal.invariant-loop-a
invariant-loop-a l = l.accesses.items ≡ map (access (netlist_of l.wiring)) (accesses_of assign_accesses_of (take l.a-index l.wiring.assigns.items))
