use Rattle.std.proofs.Common.{◌≡◌, ◌<◌, ◌≤◌, ℕ, length, map}
use Rattle.std.specs.Prelude.{slice_index}
use Rattle.lane_rows.proofs.row.trim_numbers.Given as goal

abbrev pub invariant-loop-t : goal.invariant-loop-t
invariant-loop-t g l = (length l.to ≡ length l.initial.to) × ((k : ℕ) → k < l.t → slice_index (map g.L.Lane.value l.to) k ≤ l.mask)
