use Rattle.std.proofs.Common.{◌≡◌, ◌+◌, ◌*◌, ◌≤◌, drop}
use Rattle.wiring.specs.BufferBits.{array_bits}
use Rattle.module_pass.proofs.bits.array_bits.Given as goal

abbrev pub invariant-loop-shape : goal.invariant-loop-shape
invariant-loop-shape l = record {
  sum : l.sum + array_bits (drop l.shape-index l.arrays) ≡ array_bits l.arrays;
  bound : l.sum ≤ l.shape-index * 4294967296;
}
