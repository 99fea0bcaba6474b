use Rattle.std.proofs.Common.{map, take, ◌≡◌, ◌+◌, length}
use Rattle.pointwise_ir.specs.declared.program.Input.{Input}
use Rattle.value_ranges.specs.Ranges.{type_range, intervals_from}
use Rattle.value_ranges.specs.Images.{AreRangesOf}
use Rattle.value_ranges.proofs.images.image_ranges.Given as goal

abbrev pub invariant-loop-image : goal.invariant-loop-image
invariant-loop-image l = record {
  exact : l.ranges.items ≡ intervals_from (map (λ (i : Input). type_range i.ty) l.ir.inputs) (take l.image-index l.ir.images);
  count : length l.ranges.items ≡ length l.ir.inputs + l.image-index;
  within : AreRangesOf l.ir l.ranges.items;
}
