use Rattle.std.proofs.Common.{rules}
use Rattle.array_packing.specs.Packing.{as_slice}
use Rattle.array_packing.proofs.check.is_slice.Goals as goal

pub returns : goal.returns
returns c h = as_slice c.in-Slice.word c.in-Slice.top (search rules) (search rules) (search rules) (search rules)
