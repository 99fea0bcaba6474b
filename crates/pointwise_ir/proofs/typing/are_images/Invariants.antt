use Rattle.pointwise_ir.proofs.Defined.{DefinedBelow}
use Rattle.pointwise_ir.proofs.typing.are_images.Given as goal

abbrev pub invariant-loop-k : goal.invariant-loop-k
invariant-loop-k l = DefinedBelow l.k l.inputs l.images
