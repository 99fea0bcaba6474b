use Rattle.std.proofs.Common.{take}
use Rattle.stencil_sets.proofs.Rows.{IsRange}
use Rattle.stencil_sets.proofs.found.rows_of.Given as goal

abbrev pub invariant-loop-rect : goal.invariant-loop-rect
invariant-loop-rect l = IsRange (take l.rect-index l.fn.rects) l.first l.end
