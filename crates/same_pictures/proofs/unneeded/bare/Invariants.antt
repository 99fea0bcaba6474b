use Rattle.pointwise_ir.specs.Trees.{tree_of}
use Rattle.same_pictures.specs.Matching.{StandsFor}
use Rattle.same_pictures.proofs.unneeded.bare.Given as goal

abbrev pub invariant-loop : goal.invariant-loop
invariant-loop l = record {
  stands : StandsFor l.fn.on.program.now (tree_of l.fn.e) (tree_of l.now);
}
