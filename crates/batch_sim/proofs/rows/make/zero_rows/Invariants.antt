use Rattle.std.proofs.Common.{◌≡◌, replicate}
use Rattle.lane_rows.specs.Values.{items_of}
use Rattle.batch_sim.proofs.rows.make.zero_rows.Given as goal

abbrev pub invariant-loop-slot : goal.invariant-loop-slot
invariant-loop-slot l = items_of l.rows.items ≡ replicate l._slot (replicate l.long 0)
