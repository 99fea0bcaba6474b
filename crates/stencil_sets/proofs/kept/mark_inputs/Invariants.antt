use Rattle.std.proofs.Common.{◌<◌}
use Rattle.stencil_sets.specs.Marks.{MarksMore}
use Rattle.stencil_sets.proofs.kept.mark_inputs.Given as goal

abbrev pub invariant-loop-g : goal.invariant-loop-g
invariant-loop-g l = MarksMore l.fn.kept l.kept (λ h. h < l.g)
