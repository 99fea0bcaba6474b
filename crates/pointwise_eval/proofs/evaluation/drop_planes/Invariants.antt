use Rattle.std.proofs.Common.{◌≡◌, ℕ, length, slice_get}
use Rattle.pointwise_eval.specs.Needs.{IsNeeded}
use Rattle.pointwise_eval.specs.Planes.{AreSameOrGone}
use Rattle.pointwise_eval.proofs.evaluation.drop_planes.Given as goal

abbrev pub invariant-loop-g : goal.invariant-loop-g
invariant-loop-g l = record {
  count : length l.planes ≡ length l.fn.planes;
  kept : (g : ℕ) → IsNeeded l.until l.made g → slice_get l.planes g ≡ slice_get l.fn.planes g;
  each : (g : ℕ) → AreSameOrGone (slice_get l.fn.planes g) (slice_get l.planes g);
}
