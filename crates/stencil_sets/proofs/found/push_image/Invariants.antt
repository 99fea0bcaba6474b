use Rattle.std.proofs.Common.{◌≤ℤ◌}
use Rattle.stencil_sets.proofs.Rows.{RowsSoFar}
use Rattle.stencil_sets.proofs.found.push_image.Given as goal

abbrev pub invariant-loop-dy : goal.invariant-loop-dy
invariant-loop-dy l = RowsSoFar l.fn.all.items l.all.items l.fn.f l.fn.g l.fn.rects l.first l.dy × (l.first ≤ℤ l.dy) × (l.dy ≤ℤ l.end)
