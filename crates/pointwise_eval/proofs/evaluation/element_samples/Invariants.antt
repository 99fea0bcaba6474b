use Rattle.std.proofs.Common.{◌≡◌, map, take, unsigned_abs}
use Rattle.pointwise_eval.proofs.evaluation.element_samples.Given as goal

abbrev pub invariant-loop-element : goal.invariant-loop-element
invariant-loop-element g l = l.samples.items ≡ map unsigned_abs (map g.T.Element.worth (take l.element-index l.elements))
