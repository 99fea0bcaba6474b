use Rattle.wiring.specs.declared.TheConstants.{MOST_BITS}
use Rattle.std.proofs.Common.{◌≡◌, ◌+◌, ◌*◌, ◌≤◌, drop}
use Rattle.wiring.specs.BufferBits.{chosen_bits}
use Rattle.wiring.proofs.buffer.chosen_bits.Given as goal

abbrev pub invariant-loop-k : goal.invariant-loop-k
invariant-loop-k l = record {
  sum : l.sum + chosen_bits (drop l.k l.widths) (drop l.k l.chosen) ≡ chosen_bits l.widths l.chosen;
  bound : l.sum ≤ l.k * MOST_BITS;
}
