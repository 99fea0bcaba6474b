use Rattle.pointwise_ir.specs.Trees.{tree_of}
use Rattle.same_pictures.proofs.Moved.{shows_apart}
use Rattle.same_pictures.proofs.matching.part_of.Goals as goal

pub returns-in-Some : goal.returns-in-Some
returns-in-Some c = shows_apart c.args.new.now c.args.at c.args.by.edge c.args.by.dx c.args.by.dy c.in-Some.to (tree_of c.args.b.now) c.in-Some.ensures
