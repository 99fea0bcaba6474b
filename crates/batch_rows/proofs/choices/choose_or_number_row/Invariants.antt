use Rattle.std.proofs.Common.{◌≡◌, ◌<◌, ℕ, length, map}
use Rattle.std.specs.Prelude.{slice_index, if◌then◌else◌, ◌==◌}
use Rattle.batch_rows.proofs.choices.choose_or_number_row.Given as goal

abbrev pub invariant-loop-t : goal.invariant-loop-t
invariant-loop-t g l = (length l.to ≡ length l.initial.to) × ((k : ℕ) → k < l.t → slice_index (map g.L.Lane.value l.to) k ≡ (if slice_index (map g.B.Lane.value l.bit) k == 1 then slice_index (map g.L.Lane.value l.on) k else g.L.Lane.value l.number))
