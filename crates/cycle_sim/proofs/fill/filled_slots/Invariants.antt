use Rattle.std.proofs.Common.{◌≡◌, map, take}
use Rattle.cycle_sim.specs.Filled.{fill_value}
use Rattle.cycle_sim.proofs.fill.filled_slots.Given as goal

abbrev pub invariant-loop-width : goal.invariant-loop-width
invariant-loop-width l = l.values.items ≡ map (fill_value l.fill) (take l.width-index l.widths)
