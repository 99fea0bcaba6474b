use Rattle.std.proofs.Common.{◌≡◌, ℕ, ◌<◌, ◌≤◌, length, map, take, get_or, slice_get}
use Rattle.dk_base.specs.FrameSizes.{size_of}
use Rattle.dk_base.specs.Frames.{picture_at}
use Rattle.pointwise_eval.specs.Planes.{all_shown}
use Rattle.pointwise_eval.specs.Rounds.{frame_of}
use Rattle.pointwise_eval.proofs.evaluation.frames_of_outputs.Given as goal

abbrev pub invariant-loop-output : goal.invariant-loop-output
invariant-loop-output l = record {
  done : l.frames.items ≡ map (λ g. frame_of (size_of l.size) (picture_at (all_shown (size_of l.size) l.fn.planes) g)) (take l.output-index l.outputs);
  there : (j : ℕ) → l.output-index ≤ j → j < length l.outputs → slice_get l.planes (get_or l.outputs j 0) ≡ slice_get l.fn.planes (get_or l.outputs j 0);
}
