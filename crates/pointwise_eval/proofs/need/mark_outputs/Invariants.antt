use Rattle.std.proofs.Common.{◌≡◌, ◌<◌, ℕ, length, slice_index_or}
use Rattle.pointwise_eval.specs.Needs.{IsNeeded}
use Rattle.pointwise_eval.proofs.need.mark_outputs.Given as goal

abbrev pub invariant-loop-output : goal.invariant-loop-output
invariant-loop-output l = record {
  long : length l.until ≡ length l.fn.until;
  marked : (k : ℕ) (d : ℕ) → k < l.output-index → IsNeeded l.until l.behind (slice_index_or l.outputs k d);
}
