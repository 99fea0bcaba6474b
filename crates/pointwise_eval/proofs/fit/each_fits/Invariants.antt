use Rattle.std.proofs.Common.{ℕ, ◌<◌, ◌≡◌, slice_get, Some}
use Rattle.dk_base.specs.FrameSizes.{size_of}
use Rattle.pointwise_ir.specs.declared.program.Input.{Input}
use Rattle.dk_frames.specs.declared.frame.Frame.{Frame}
use Rattle.pointwise_eval.specs.Rounds.{IsInputFrame}
use Rattle.pointwise_eval.proofs.fit.each_fits.Given as goal

abbrev pub invariant-loop-k : goal.invariant-loop-k
invariant-loop-k l = (j : ℕ) (f : Frame) (input : Input) → j < l.k → slice_get l.frames j ≡ Some f → slice_get l.inputs j ≡ Some input → IsInputFrame (size_of l.size) input.ty f
