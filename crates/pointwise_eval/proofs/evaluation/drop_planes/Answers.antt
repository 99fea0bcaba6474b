use Rattle.std.proofs.Common.{◌∙◌}
use Rattle.pointwise_eval.proofs.Rendered.{dropped_kept, dropped_each}
use Rattle.pointwise_eval.proofs.evaluation.drop_planes.Goals as goal

pub loop-g-preserved : goal.loop-g-preserved
loop-g-preserved c = record {
  count = c.drop_plane.auto.planes ∙ c.loop-g.invariant.count;
  kept = dropped_kept c.args.planes.now c.loop-g.planes c.drop_plane.new.planes c.args.until.now c.args.made c.loop-g.g c.drop_plane.ensures.others c.drop_plane.ensures.kept c.loop-g.invariant.kept;
  each = dropped_each c.args.planes.now c.loop-g.planes c.drop_plane.new.planes c.loop-g.g c.drop_plane.ensures.others c.drop_plane.ensures.here c.loop-g.invariant.each;
}
