use Rattle.std.proofs.Common.{◌≡◌, ℕ, ◌<◌, Some, slice_get, slice_index}
use Rattle.same_pictures.proofs.pairing.are_pairs.Given as goal

abbrev pub invariant-loop-k : goal.invariant-loop-k
invariant-loop-k l = record {
  pairs : (j : ℕ) → j < l.k → slice_get l.fn.pairs (slice_index l.fn.old j) ≡ Some (Some (slice_index l.fn.new j));
}
