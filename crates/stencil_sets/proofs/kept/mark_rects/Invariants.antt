use Rattle.std.proofs.Common.{take}
use Rattle.stencil_sets.specs.Marks.{MarksMore}
use Rattle.stencil_sets.proofs.Marked.{SomeCovered}
use Rattle.stencil_sets.proofs.kept.mark_rects.Given as goal

abbrev pub invariant-loop-rect : goal.invariant-loop-rect
invariant-loop-rect l = MarksMore l.fn.kept l.kept (SomeCovered (take l.rect-index l.fn.rects))
