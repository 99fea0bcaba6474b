use Rattle.std.proofs.Common.{rules}
use Rattle.array_packing.specs.Packing.{one, more}
use Rattle.array_packing.proofs.joins.is_joined.Goals as goal

pub returns-then-puts_at : goal.returns-then-puts_at
returns-then-puts_at c h = c.loop.invariant (one (search rules))

pub loop-preserved : goal.loop-preserved
loop-preserved c rest = c.loop.invariant (more c.in-Some.upper c.in-Some.lower c.in-Some.ensures (search rules) rest)
