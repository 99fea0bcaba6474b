use Rattle.std.proofs.Common.{◌≡◌, ◌<◌, ◌≤◌, length, get_or, ap, arith}
use Rattle.std.proofs.lemmas.Int.{ints}
use Rattle.std.proofs.lemmas.List.{get_or-map, length-map}
use Rattle.dk_base.specs.declared.stencils.Image.{Image}
use Rattle.raster_delay.specs.Network.{Buffer}
use Rattle.raster_delay.specs.Delays.{begin_of, end_of}
use Rattle.raster_delay.specs.Placing.{widths_of}
use Rattle.raster_delay.proofs.Amounts.{spot, amount-more, amount-all}
use Rattle.raster_delay.proofs.measure.coefficient.Goals as goal

pub loop-k-preserved : goal.loop-k-preserved
loop-k-preserved c =
    let images = c.args.images.now in
    let inputs = c.args.inputs in
    let node = c.args.node in
    let k = c.loop-k.k in
    let none : Image = record { number = 0; width = 0 } in
    let below : k < length images = omega arith in
    let n = length images in
    let widths = widths_of images in
    let within : k < length widths = omega (arith, below, length-map images (λ (i : Image). i.width)) in
    let width : get_or widths k 0 ≡ (get_or images k none).width = get_or-map (λ (i : Image). i.width) images k none 0 below in
    let ended = c.amount-sum.ensures in
    let begun = c.amount-sum-in-loop-k.ensures in
    record {
      sum = omega (
        arith,
        ints,
        c.loop-k.invariant.sum,
        ended.value,
        begun.value,
        amount-more inputs n widths (λ (b : Buffer). b.begin) k node within,
        amount-more inputs n widths (λ (b : Buffer). b.end) k node within,
        ap (λ x. spot x (get_or images k none).width node) c.end_node.ensures,
        ap (λ x. spot x (get_or images k none).width node) c.begin_node.ensures,
        ap (λ x. spot (end_of inputs n k) x node) width,
        ap (λ x. spot (begin_of inputs k) x node) width,
      );
      low = omega (arith, ints, c.loop-k.invariant.low, ended.least, begun.most);
      high = omega (arith, ints, c.loop-k.invariant.high, ended.most, begun.least);
    }

pub returns : goal.returns
returns c =
    let images = c.args.images.now in
    let widths = widths_of images in
    let all : length widths ≤ c.loop-k.k = omega (arith, length-map images (λ (i : Image). i.width)) in
    omega (
      arith,
      ints,
      c.loop-k.invariant.sum,
      amount-all c.args.inputs (length images) widths (λ (b : Buffer). b.begin) c.loop-k.k c.args.node all,
      amount-all c.args.inputs (length images) widths (λ (b : Buffer). b.end) c.loop-k.k c.args.node all,
    )
