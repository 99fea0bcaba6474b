use Rattle.std.proofs.Common.{rules}
use Rattle.array_packing.proofs.packing.is_packing.Goals as goal

pub returns : goal.returns
returns c h = record {
  packed = c.is_packed_module.ensures (search rules);
  filled = c.in_ok-full.ensures (search rules);
  arrays = c.same_array_bits.ensures (search rules);
  bits = c.in_ok-same.ensures h;
  once = λ old. c.in_ok-once.ensures (search rules);
}
