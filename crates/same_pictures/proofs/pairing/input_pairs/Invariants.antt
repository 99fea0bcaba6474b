use Rattle.std.proofs.Common.{◌≡◌, ℕ, ◌<◌, Some, length, slice_get}
use Rattle.same_pictures.proofs.pairing.input_pairs.Given as goal

abbrev pub invariant-loop-k : goal.invariant-loop-k
invariant-loop-k l = record {
  count : length l.pairs.items ≡ l.k;
  each : (g h : ℕ) → slice_get l.pairs.items g ≡ Some (Some h) → (h ≡ g) × (g < l.k);
}
