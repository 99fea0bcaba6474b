use Rattle.std.proofs.Common.{◌≡◌, ◌∙◌, ◌*◌, ap, [], ◌∷◌, ◌++◌, length, mul_comm, arith, rules}
use Rattle.dk_base.specs.Frames.{area}
use Rattle.dk_base.specs.FrameSizes.{size_of}
use Rattle.pointwise_ir.specs.Trees.{tree_of}
use Rattle.pointwise_ir.specs.Meaning.{value}
use Rattle.pointwise_eval.specs.Planes.{all_shown}
use Rattle.pointwise_eval.proofs.Shown.{samples_more, shown_is}
use Rattle.pointwise_eval.proofs.value.render_points.Goals as goal

pub loop-x-preserved : goal.loop-x-preserved
loop-x-preserved c =
    let size = size_of c.args.size in
    let more : c.push.new.self.items ≡ c.loop-x.values.items ++ c.value_at.result ∷ [] = search rules in
    record {
      so_many = omega (arith, c.in_ok-push.ensures.len);
      samples = rw more (samples_more size (value size (all_shown size c.args.planes.now) (tree_of c.args.e.now)) c.loop-x.values.items c.loop-x.x c.loop-y.y c.value_at.result c.loop-x.invariant.so_many c.loop-x-test.true c.value_at.ensures c.loop-x.invariant.samples);
    }

pub returns : goal.returns
returns c =
    let size = size_of c.args.size in
    let rows : c.loop-y.y ≡ c.args.size.height = omega (arith, c.loop-y.auto.y-end, c.loop-y-test.false) in
    let whole : length c.loop-y.values.items ≡ area size = c.loop-y.invariant.so_many ∙ ap (λ n. n * c.args.size.width) rows ∙ mul_comm c.args.size.height c.args.size.width in
    record { whole = whole; shown = shown_is size (value size (all_shown size c.args.planes.now) (tree_of c.args.e.now)) c.loop-y.values.items whole c.loop-y.invariant.samples }
