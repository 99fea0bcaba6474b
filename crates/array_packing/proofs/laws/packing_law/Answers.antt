use Rattle.array_packing.proofs.Simulating.{packed_simulates}
use Rattle.array_packing.proofs.laws.packing_law.Goals as goal

pub returns : goal.returns
returns c new old slots order is old_rules rules ordered = packed_simulates new old slots is old_rules rules order ordered
