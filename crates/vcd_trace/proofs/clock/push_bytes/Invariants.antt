use Rattle.std.proofs.Common.{◌≡◌, ◌+◌, ◌++◌, take}
use Rattle.std.specs.Vec.{vec_len, vec_capacity}
use Rattle.vcd_trace.proofs.clock.push_bytes.Given as goal

abbrev pub invariant-loop-byte : goal.invariant-loop-byte
invariant-loop-byte l = record {
  items : l.to.items ≡ l.fn.to.items ++ take l.byte-index l.bytes;
  len : vec_len l.to ≡ vec_len l.fn.to + l.byte-index;
  capacity : vec_capacity l.to ≡ vec_capacity l.fn.to;
}
