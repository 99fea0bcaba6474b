use Rattle.std.proofs.Common.{◌≡◌, ◌<◌, ℕ, length, map}
use Rattle.std.specs.Prelude.{slice_index}
use Rattle.batch_rows.proofs.pairs.pair_row.Given as goal

abbrev pub invariant-loop-t : goal.invariant-loop-t
invariant-loop-t g l = (length l.to ≡ length l.initial.to) × ((k : ℕ) → k < l.t → slice_index (map g.L.Lane.value l.to) k ≡ g.P.Pair.value l.pair (slice_index (map g.L.Lane.value l.a) k) (slice_index (map g.L.Lane.value l.b) k))
