use Rattle.std.proofs.Common.{◌≡◌, ap, sym, subst, ◌∙◌, ◌++◌}
use Rattle.pgm_codec.specs.Images.{file_of}
use Rattle.pointwise_ir.specs.Programs.{types_of}
use Rattle.pointwise_ir.specs.Meaning.{pictures}
use Rattle.pointwise_eval.specs.Rounds.{round_of, output_frames}
use Rattle.program_images.specs.Writing.{AreOutputFrames, images_with}
use Rattle.pointwise_eval.proofs.Rendered.{round_is}
use Rattle.program_images.proofs.Written.{outputs_fit, images_are}
use Rattle.program_images.proofs.outputs.write_outputs.Goals as goal

pub add_images-requires : goal.add_images-requires
add_images-requires c =
    let p = c.args.ir.now in
    let frames = c.args.round.now.frames.items in
    let known = pictures p (round_of p.size frames) in
    let e : c.deref-2.result.now ≡ output_frames p known = c.deref-2.ensures.value ∙ c.in_ok-frames.ensures ∙ ap (λ x. output_frames p (pictures p (round_of p.size x))) c.deref.ensures.value in
    subst (λ x. AreOutputFrames p x) (sym e) (outputs_fit p c.law.ensures known (c.meaning_law.ensures.values (round_of p.size frames) (round_is p frames c.law.ensures c.requires)))

pub returns : goal.returns
returns c =
    let p = c.args.ir.now in
    let frames = c.args.round.now.frames.items in
    let known = pictures p (round_of p.size frames) in
    let file = c.args.file.now.items in
    let e : c.deref-2.result.now ≡ output_frames p known = c.deref-2.ensures.value ∙ c.in_ok-frames.ensures ∙ ap (λ x. output_frames p (pictures p (round_of p.size x))) c.deref.ensures.value in
    c.in_ok-add_images.ensures ∙ ap (λ x. file ++ file_of (images_with (types_of p) p.outputs x)) e ∙ ap (λ x. file ++ file_of x) (images_are (types_of p) p.size known p.outputs)
