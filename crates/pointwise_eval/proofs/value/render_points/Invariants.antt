use Rattle.std.proofs.Common.{◌≡◌, ◌+◌, ◌*◌, length}
use Rattle.dk_base.specs.FrameSizes.{size_of}
use Rattle.pointwise_ir.specs.Trees.{tree_of}
use Rattle.pointwise_ir.specs.Meaning.{value}
use Rattle.pointwise_eval.specs.Planes.{all_shown}
use Rattle.pointwise_eval.proofs.Shown.{AreSamples}
use Rattle.pointwise_eval.proofs.value.render_points.Given as goal

abbrev pub invariant-loop-x : goal.invariant-loop-x
invariant-loop-x l = record {
  so_many : length l.values.items ≡ l.y * l.size.width + l.x;
  samples : AreSamples (size_of l.size) (value (size_of l.size) (all_shown (size_of l.size) l.planes) (tree_of l.e)) l.values.items;
}

abbrev pub invariant-loop-y : goal.invariant-loop-y
invariant-loop-y l = record {
  so_many : length l.values.items ≡ l.y * l.size.width;
  samples : AreSamples (size_of l.size) (value (size_of l.size) (all_shown (size_of l.size) l.planes) (tree_of l.e)) l.values.items;
}
