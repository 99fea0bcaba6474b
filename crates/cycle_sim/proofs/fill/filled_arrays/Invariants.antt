use Rattle.std.proofs.Common.{◌≡◌, map, take}
use Rattle.cycle_sim.specs.Filled.{filled_words}
use Rattle.cycle_sim.specs.Slots.{words_of}
use Rattle.cycle_sim.proofs.fill.filled_arrays.Given as goal

abbrev pub invariant-loop-shape : goal.invariant-loop-shape
invariant-loop-shape l = words_of l.arrays.items ≡ map (filled_words l.fill) (take l.shape-index l.shapes)
