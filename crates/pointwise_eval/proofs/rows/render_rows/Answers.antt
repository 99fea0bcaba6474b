use Rattle.dk_base.specs.declared.ty.Ty.TheVariants.{Signed}
use Rattle.dk_base.specs.FrameSizes.{size_of}
use Rattle.dk_base.proofs.Ranges.{in_wider}
use Rattle.pointwise_ir.specs.Trees.{tree_of}
use Rattle.pointwise_eval.specs.Planes.{all_shown}
use Rattle.pointwise_eval.proofs.Narrows.{whole_in}
use Rattle.pointwise_eval.proofs.rows.render_rows.Goals as goal

pub render_elements-requires-in-Signed64 : goal.render_elements-requires-in-Signed64
render_elements-requires-in-Signed64 g c =
    let size = size_of c.args.size in
    record {
      lane = c.requires.lane;
      typed = λ x y. in_wider g.L.Element.ty (Signed 64) _ c.element_type-type.ensures.narrow (whole_in g.L.Element.ty size (all_shown size c.args.planes.now) (tree_of c.args.e.now) c.requires.lane.parts x y);
      depth = c.requires.depth;
    }
