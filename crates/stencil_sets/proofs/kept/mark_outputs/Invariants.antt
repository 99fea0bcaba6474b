use Rattle.stencil_sets.specs.Marks.{MarksMore}
use Rattle.stencil_sets.proofs.Marked.{Among}
use Rattle.stencil_sets.proofs.kept.mark_outputs.Given as goal

abbrev pub invariant-loop-output : goal.invariant-loop-output
invariant-loop-output l = MarksMore l.fn.kept l.kept (Among l.fn.outputs l.output-index)
