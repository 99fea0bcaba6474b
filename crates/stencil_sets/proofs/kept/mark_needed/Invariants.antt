use Rattle.stencil_sets.specs.Marks.{MarkedSoFar}
use Rattle.stencil_sets.proofs.kept.mark_needed.Given as goal

abbrev pub invariant-loop-k : goal.invariant-loop-k
invariant-loop-k l = MarkedSoFar l.fn.ir l.fn.kept l.kept l.k

abbrev pub decreases-loop-k : goal.decreases-loop-k
decreases-loop-k l = l.k
