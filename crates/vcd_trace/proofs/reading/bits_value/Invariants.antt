use Rattle.std.proofs.Common.{◌≡◌, ◌<◌, ◌^◌, drop}
use Rattle.vcd_trace.specs.Steps.{bits_after}
use Rattle.vcd_trace.proofs.reading.bits_value.Given as goal

abbrev pub invariant-loop-byte : goal.invariant-loop-byte
invariant-loop-byte l = bits_after 0 l.bytes < 2 ^ 64 → bits_after l.value (drop l.byte-index l.bytes) ≡ bits_after 0 l.bytes
