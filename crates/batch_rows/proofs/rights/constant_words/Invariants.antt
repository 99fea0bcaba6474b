use Rattle.std.proofs.Common.{◌≡◌, ◌<◌, ℕ, length}
use Rattle.std.specs.Prelude.{slice_index}
use Rattle.batch_rows.proofs.rights.constant_words.Given as goal

abbrev pub invariant-loop-t : goal.invariant-loop-t
invariant-loop-t l = (length l.to ≡ length l.initial.to) × ((k : ℕ) → k < l.t → slice_index l.to k ≡ l.number)
