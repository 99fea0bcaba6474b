use Rattle.std.proofs.Common.{refl, ◌∷◌, [], arith, length-append}
use Rattle.std.proofs.lemmas.Option.{slice_get_read}
use Rattle.value_ranges.proofs.Imaged.{types_more, input_more}
use Rattle.value_ranges.proofs.images.input_ranges.Goals as goal

pub loop-input-preserved : goal.loop-input-preserved
loop-input-preserved c =
    let there = slice_get_read c.args.inputs.now _ c.loop-input.input-index c.input-item.result refl c.loop-input-test.true c.input-item.is in
    let longer = length-append c.loop-input.ranges.items (c.of_type.result ∷ []) in
    let count = c.loop-input.invariant.count in
    rw c.in_ok-push.ensures.items
    (record {
      exact = input_more c.args.inputs.now c.loop-input.ranges.items _ c.loop-input.input-index c.input-item.result c.of_type.result there c.of_type.ensures.exact c.loop-input.invariant.exact refl;
      count = omega (arith, longer, count);
      types = types_more c.args.inputs.now c.loop-input.ranges.items c.loop-input.input-index c.input-item.result c.of_type.result count there (λ v h. (c.of_type.ensures.values v).1 h) c.loop-input.invariant.types;
    })
