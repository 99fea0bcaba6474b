use Rattle.std.proofs.Common.{map, take, ◌≡◌, length}
use Rattle.pointwise_ir.specs.declared.program.Input.{Input}
use Rattle.value_ranges.specs.Ranges.{type_range}
use Rattle.value_ranges.specs.Images.{HoldTypes}
use Rattle.value_ranges.proofs.images.input_ranges.Given as goal

abbrev pub invariant-loop-input : goal.invariant-loop-input
invariant-loop-input l = record {
  exact : l.ranges.items ≡ map (λ (i : Input). type_range i.ty) (take l.input-index l.inputs);
  count : length l.ranges.items ≡ l.input-index;
  types : HoldTypes l.inputs l.ranges.items;
}
