use Rattle.stencil_sets.proofs.Sources.{SourcesSoFar}
use Rattle.stencil_sets.proofs.reader.push_reader.Given as goal

abbrev pub invariant-loop-g : goal.invariant-loop-g
invariant-loop-g l = SourcesSoFar l.fn.all.items l.all.items l.fn.rects l.fn.f l.g
