use Rattle.std.proofs.Common.{◌≡◌, ◌++◌, take, map}
use Rattle.wiring.specs.Netlist.{netlist_of}
use Rattle.wiring.specs.Snapshot.{accesses_of, update_accesses}
use Rattle.cycle_sim.specs.Edge.{access, assign_accesses_of}
use Rattle.cycle_sim.proofs.build.accesses_of_wiring.Given as goal

abbrev pub invariant-loop-u : goal.invariant-loop-u
invariant-loop-u l = l.accesses.items ≡ map (access (netlist_of l.wiring)) (accesses_of assign_accesses_of l.wiring.assigns.items ++ accesses_of update_accesses (take l.u-index l.wiring.updates.items))
