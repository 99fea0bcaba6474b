use Rattle.std.proofs.Common.{◌≡◌, ◌<◌, ◌≤◌, ◌-◌, ℕ, slice_index}
use Rattle.flow_dual.proofs.shifting.rebase.Given as goal

abbrev pub invariant-loop-v : goal.invariant-loop-v
invariant-loop-v l = record {
  done : (k : ℕ) → k < l.v → slice_index l.numbers k ≡ slice_index l.initial.numbers k - l.base;
  later : (k : ℕ) → l.v ≤ k → slice_index l.numbers k ≡ slice_index l.initial.numbers k;
}
