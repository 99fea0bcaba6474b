use Rattle.std.proofs.Common.{ap, sym, ◌∙◌, arith, length, ◌≡◌}
use Rattle.pointwise_ir.proofs.typing.is_program.Goals as goal

pub returns-then-not-are_images-clause-no : goal.returns-then-not-are_images-clause-no
returns-then-not-are_images-clause-no c = λ program. sym c.if-not-are_images.true ∙ c.are_images.ensures.no (rw (c.as_slice-inputs.ensures.value, c.as_slice-images.ensures.value) program.images)

pub returns-clause-yes : goal.returns-clause-yes
returns-clause-yes c = λ yes.
    let inputs : length c.as_slice-inputs.result.now ≡ length c.args.parts.now.inputs.items = ap length c.as_slice-inputs.ensures.value in
    let images : length c.as_slice-images.result.now ≡ length c.args.parts.now.images.items = ap length c.as_slice-images.ensures.value in
    let outputs : length c.as_slice-outputs.result.now ≡ length c.args.parts.now.outputs.items = ap length c.as_slice-outputs.ensures.value in
    record {
      frame = c.args.parts.now.size.sides;
      some_inputs = omega (arith, inputs, c.if-inputs-lt1.false);
      most_inputs = omega (arith, inputs, c.if-inputs-gt-MAX_INPUTS.false);
      inputs = rw c.as_slice-inputs.ensures.value at (c.are_inputs.ensures.yes c.if-not-are_inputs.false);
      most_images = omega (arith, inputs, images, c.if-inputs-gt-MAX_INPUTS.false, c.if-inputs-images.false);
      images = rw (c.as_slice-inputs.ensures.value, c.as_slice-images.ensures.value) at (c.are_images.ensures.yes c.if-not-are_images.false);
      some_outputs = omega (arith, outputs, c.if-outputs-lt1.false);
      most_outputs = omega (arith, outputs, c.if-outputs-gt-MAX_OUTPUTS.false);
      distinct = rw c.as_slice-outputs.ensures.value at (c.are_distinct.ensures.yes c.if-not-are_distinct.false);
      outputs = rw (c.as_slice-inputs.ensures.value, c.as_slice-images.ensures.value, c.as_slice-outputs.ensures.value) at (c.are_outputs.ensures.yes yes);
    }

pub returns-clause-no : goal.returns-clause-no
returns-clause-no c = λ program. c.are_outputs.ensures.no (rw (c.as_slice-inputs.ensures.value, c.as_slice-images.ensures.value, c.as_slice-outputs.ensures.value) program.outputs)
