use Rattle.std.proofs.Common.{◌≡◌, ◌++◌, ◌<◌, ◌-◌, ◌^◌, ap, ◌∙◌, arith, length, get_or}
use Rattle.pgm_codec.specs.Images.{header_of, raster_of}
use Rattle.pointwise_ir.specs.Programs.{types_of}
use Rattle.program_images.specs.Ports.{bits_of}
use Rattle.program_images.proofs.Written.{added}
use Rattle.program_images.proofs.outputs.add_images.Goals as goal

pub loop-k-preserved : goal.loop-k-preserved
loop-k-preserved c =
    let k = c.loop-k.k in
    let ir = c.args.ir.now in
    let outputs : c.outputs-outputs.result.now ≡ ir.outputs = c.outputs-outputs.ensures in
    let within : k < length ir.outputs = omega (arith, ap length outputs) in
    let greatest : c.greatest_sample-maxval.result ≡ 2 ^ bits_of (types_of ir) (get_or ir.outputs k 0) - 1 = c.greatest_sample-maxval.ensures.is ∙ ap (λ xs. 2 ^ bits_of (types_of ir) (get_or xs k 0) - 1) outputs in
    let there : k < length c.args.frames.now = omega (arith, within, c.requires.one_each) in
    let frame = c.index-frames-k.result in
    let maxval = c.greatest_sample-maxval.result in
    added (types_of ir) ir.outputs c.args.frames.now k c.greatest_sample-maxval.result c.index-frames-k.result c.args.file.now.items c.loop-k.file.items c.write_image.new.file.items within there c.index-frames-k.is greatest
    c.loop-k.invariant (c.in_ok-write_image.ensures ∙ ap (λ x. c.loop-k.file.items ++ (header_of frame.width frame.height maxval ++ raster_of maxval x)) c.as_slice.ensures)
