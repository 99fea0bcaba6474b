use Rattle.std.proofs.Common.{◌≤◌, ◌<◌, ℕ, [], length}
use Rattle.std.specs.Prelude.{slice_index_or}
use Rattle.lane_rows.specs.Values.{items_of}
use Rattle.batch_sim.proofs.rows.are_long.Given as goal

abbrev pub invariant-loop-x : goal.invariant-loop-x
invariant-loop-x l = (x : ℕ) → x < l.x → l.count ≤ length (slice_index_or (items_of l.lists) x [])
