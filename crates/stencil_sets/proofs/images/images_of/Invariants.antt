use Rattle.stencil_sets.proofs.Numbered.{ImagesSoFar}
use Rattle.stencil_sets.proofs.images.images_of.Given as goal

abbrev pub invariant-loop-g : goal.invariant-loop-g
invariant-loop-g l = ImagesSoFar l.fn.ir l.fn.kept l.images.items l.g
