use Rattle.dk_base.specs.declared.ty.Ty.TheVariants.{Signed}
use Rattle.pointwise_ir.specs.Trees.{tree_of}
use Rattle.pointwise_eval.proofs.Lanes.{parts_held}
use Rattle.pointwise_eval.proofs.lane.lane_of.Goals as goal

pub returns-then-is_within : goal.returns-then-is_within
returns-then-is_within c = parts_held c.args.ranges.now (tree_of c.args.e.now) c.in-Some.bounds.parts (Signed 16) c.in-Some.ensures.parts (c.is_within.ensures.yes c.if-is_within.true)

pub returns-then-is_within-2 : goal.returns-then-is_within-2
returns-then-is_within-2 c = parts_held c.args.ranges.now (tree_of c.args.e.now) c.in-Some.bounds.parts (Signed 32) c.in-Some.ensures.parts (c.is_within-2.ensures.yes c.if-is_within-2.true)
