use Rattle.std.proofs.Common.{◌≡◌, map, take, unsigned_abs}
use Rattle.pointwise_eval.proofs.evaluation.wide_samples.Given as goal

abbrev pub invariant-loop-value : goal.invariant-loop-value
invariant-loop-value l = l.samples.items ≡ map unsigned_abs (take l.value-index l.values)
