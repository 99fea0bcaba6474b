use Rattle.stencil_sets.proofs.Programs.{ReadersSoFar}
use Rattle.stencil_sets.proofs.reads.push_marked.Given as goal

abbrev pub invariant-loop-k : goal.invariant-loop-k
invariant-loop-k l = ReadersSoFar l.fn.ir l.all.items l.k
