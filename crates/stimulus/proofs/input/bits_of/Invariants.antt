use Rattle.std.proofs.Common.{◌≡◌, take}
use Rattle.stimulus.proofs.input.bits_of.Given as goal

abbrev pub invariant-loop-width : goal.invariant-loop-width
invariant-loop-width l = l.bits.items ≡ take l.width-index l.widths
