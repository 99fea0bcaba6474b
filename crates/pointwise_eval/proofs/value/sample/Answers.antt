use Rattle.std.proofs.Common.{rules}
use Rattle.std.specs.Prelude.{FitsSigned}
use Rattle.std.proofs.lemmas.Int.{to_z-of_z}
use mir.Syntax.{w128}
use Rattle.dk_base.specs.FrameSizes.{size_of}
use Rattle.pointwise_eval.proofs.Rendered.{plane_value}
use Rattle.pointwise_eval.proofs.value.sample.Goals as goal

pub returns : goal.returns
returns c =
    let fits : FitsSigned w128 c.value_of.result = search rules in
    rw (to_z-of_z w128 c.value_of.result fits)
    (plane_value (size_of c.args.size) c.args.planes.now c.args.image c.index-planes-image.result c.args.at.x c.args.at.y c.value_of.result c.requires.whole c.index-planes-image.is c.requires.pixel.across c.requires.pixel.down c.value_of.ensures)
