use Rattle.std.proofs.Common.{◌≡◌, map, take, pos}
use Rattle.pointwise_eval.specs.Planes.{values_of}
use Rattle.pointwise_eval.proofs.evaluation.input_planes.Given as goal

abbrev pub invariant-loop-frame : goal.invariant-loop-frame
invariant-loop-frame l = map values_of l.planes.items ≡ map (λ f. map pos f.samples) (take l.frame-index l.frames)
