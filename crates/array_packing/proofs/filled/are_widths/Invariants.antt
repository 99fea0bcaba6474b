use Rattle.std.proofs.Common.{◌≡◌, take}
use Rattle.array_packing.specs.Packing.{widths_of}
use Rattle.array_packing.proofs.filled.are_widths.Given as goal

abbrev pub invariant-loop-k : goal.invariant-loop-k
invariant-loop-k l = take l.k l.reached ≡ widths_of (take l.k l.arrays)
