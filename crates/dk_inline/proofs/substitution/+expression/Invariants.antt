use Rattle.dk_types.specs.Typed.{typed_of, typing_of}
use Rattle.pointwise_ir.specs.Trees.{depth_of}
use Rattle.dk_inline.specs.Inlined.{inlined, substitutes}
use Rattle.dk_inline.proofs.substitution.+expression.Given as goal

abbrev pub decreases-expression : goal.decreases-expression
decreases-expression l = depth_of (inlined (substitutes (typing_of l.program.now)) (typed_of l.e.now))
