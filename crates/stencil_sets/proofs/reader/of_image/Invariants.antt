use Rattle.std.proofs.Common.{drop}
use Rattle.stencil_sets.proofs.Readers.{ChosenSoFar}
use Rattle.stencil_sets.proofs.reader.of_image.Given as goal

abbrev pub invariant-loop-rect : goal.invariant-loop-rect
invariant-loop-rect l = ChosenSoFar l.fn.rects (drop l.rect-index l.fn.rects) l.chosen.items l.fn.g
