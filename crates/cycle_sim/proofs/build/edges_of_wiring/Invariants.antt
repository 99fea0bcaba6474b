use Rattle.std.proofs.Common.{◌≡◌, take, map}
use Rattle.wiring.specs.Netlist.{netlist_of}
use Rattle.cycle_sim.specs.Edge.{edge}
use Rattle.cycle_sim.proofs.build.edges_of_wiring.Given as goal

abbrev pub invariant-loop-u : goal.invariant-loop-u
invariant-loop-u l = l.edges.items ≡ map (edge (netlist_of l.wiring)) (take l.u-index l.wiring.updates.items)
