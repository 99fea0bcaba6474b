use Rattle.std.proofs.Common.{◌≡◌, take}
use Rattle.stimulus.specs.Stimulus.{greatest_dins}
use Rattle.stimulus.proofs.pixels.greatest_of.Given as goal

abbrev pub invariant-loop-width : goal.invariant-loop-width
invariant-loop-width l = l.dins.items ≡ greatest_dins (take l.width-index l.widths)
