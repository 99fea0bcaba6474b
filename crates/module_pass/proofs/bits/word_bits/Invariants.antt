use Rattle.std.proofs.Common.{◌≡◌, ◌+◌, ◌*◌, ◌≤◌, drop}
use Rattle.module_pass.specs.Words.{word_bits}
use Rattle.module_pass.proofs.bits.word_bits.Given as goal

abbrev pub invariant-loop-shape : goal.invariant-loop-shape
invariant-loop-shape l = record {
  sum : l.sum + word_bits l.least (drop l.shape-index l.arrays) ≡ word_bits l.least l.arrays;
  bound : l.sum ≤ l.shape-index * 256;
}
