use Rattle.std.proofs.Common.{drop}
use Rattle.stencil_sets.proofs.Rows.{RowSoFar}
use Rattle.stencil_sets.proofs.found.push_row.Given as goal

abbrev pub invariant-loop-rect : goal.invariant-loop-rect
invariant-loop-rect l = RowSoFar l.fn.all.items l.all.items l.fn.f l.fn.g l.fn.dy l.fn.rects (drop l.rect-index l.fn.rects) l.next
