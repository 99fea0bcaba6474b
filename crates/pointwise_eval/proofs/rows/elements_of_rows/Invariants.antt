use Rattle.std.proofs.Common.{map, ◌≡◌, ◌*◌, length}
use Rattle.dk_base.specs.FrameSizes.{size_of}
use Rattle.pointwise_ir.specs.Trees.{tree_of}
use Rattle.pointwise_ir.specs.Meaning.{value}
use Rattle.pointwise_eval.specs.Planes.{all_shown}
use Rattle.pointwise_eval.proofs.Shown.{AreSamples}
use Rattle.pointwise_eval.proofs.rows.elements_of_rows.Given as goal

abbrev pub invariant-loop-y : goal.invariant-loop-y
invariant-loop-y g l = record {
  scratch : length l.scratch ≡ length l.fn.scratch;
  part : length l.part ≡ length l.fn.part;
  count : length (map g.T.Element.worth l.elements.items) ≡ l.y * l.size.width;
  samples : AreSamples (size_of l.size) (value (size_of l.size) (all_shown (size_of l.size) l.planes) (tree_of l.e)) (map g.T.Element.worth l.elements.items);
}
