use Rattle.std.proofs.Common.{◌≡◌, ◌<◌, ◌≤◌, ◌-◌, ℕ, slice_index}
use Rattle.flow_dual.proofs.shifting.lower.Given as goal

abbrev pub invariant-loop-v : goal.invariant-loop-v
invariant-loop-v l = record {
  reached : (k : ℕ) → k < l.v → 0 < slice_index l.order k → slice_index l.numbers k ≡ slice_index l.initial.numbers k;
  others : (k : ℕ) → k < l.v → slice_index l.order k ≡ 0 → slice_index l.numbers k ≡ slice_index l.initial.numbers k - l.by;
  later : (k : ℕ) → l.v ≤ k → slice_index l.numbers k ≡ slice_index l.initial.numbers k;
}
