use Rattle.std.proofs.Common.{◌≡◌, ℕ, ◌<◌, false, true}
use Rattle.std.specs.Prelude.{slice_index_or}
use Rattle.batch_code.proofs.reads.all_marked.Given as goal

abbrev pub invariant-loop-number : goal.invariant-loop-number
invariant-loop-number l = (x : ℕ) → x < l.number → slice_index_or l.marks x false ≡ true
