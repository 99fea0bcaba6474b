use Rattle.std.proofs.Common.{◌≡◌, length, take}
use Rattle.line_buffer.specs.Rings.{AddsTaps, AreRingTaps}
use Rattle.line_buffer.proofs.rings.ring_taps.Given as goal

abbrev pub invariant-loop-age : goal.invariant-loop-age
invariant-loop-age l = record {
  taps : AddsTaps l.b l.fn.b l.ring.line.array;
  one_each : length l.nets.items ≡ l.age-index;
  are : AreRingTaps l.b l.ring.line.array l.ring.words l.ring.line.index l.ring.value (take l.age-index l.ages) l.nets.items;
}
