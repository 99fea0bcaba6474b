use Rattle.std.proofs.Common.{◌≡◌, map, take, replicate}
use Rattle.wiring.specs.declared.netlist.Shape.{Shape}
use Rattle.cycle_sim.specs.Slots.{words_of}
use Rattle.batch_sim.proofs.stored.zero_arrays.Given as goal

abbrev pub invariant-loop-shape : goal.invariant-loop-shape
invariant-loop-shape l = words_of l.arrays.items ≡ map (λ (s : Shape). replicate s.depth 0) (take l.shape-index l.shapes)
