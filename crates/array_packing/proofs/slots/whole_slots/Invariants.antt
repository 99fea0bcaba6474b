use Rattle.std.proofs.Common.{◌≡◌, ◌++◌, drop}
use Rattle.array_packing.specs.Packing.{whole_slots}
use Rattle.array_packing.proofs.slots.whole_slots.Given as goal

-- the slots so far with those to come
abbrev pub invariant-loop-array : goal.invariant-loop-array
invariant-loop-array l = l.slots.items ++ whole_slots l.array (drop l.array l.arrays) ≡ whole_slots 0 l.arrays
