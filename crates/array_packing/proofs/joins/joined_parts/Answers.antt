use Rattle.std.proofs.Common.{rules}
use Rattle.array_packing.proofs.joins.joined_parts.Goals as goal

pub returns : goal.returns
returns c = (c.in-Net.net, search rules, search rules)
