use Rattle.pointwise_eval.proofs.Rendered.{is_rendered}
use Rattle.pointwise_eval.proofs.evaluation.next_plane.Goals as goal

pub returns-then-wanted : goal.returns-then-wanted
returns-then-wanted c = is_rendered _ _ _ c.args.wanted c.render.result c.if-wanted.true c.render.ensures
