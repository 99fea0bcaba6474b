use Rattle.std.proofs.Common.{rules}
use Rattle.array_packing.proofs.joins.puts_at.Goals as goal

pub returns : goal.returns
returns c h = (c.in-Some-Put.array, search rules)
