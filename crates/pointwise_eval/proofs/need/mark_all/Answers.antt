use Rattle.std.proofs.Common.{◌∙◌}
use Rattle.pointwise_ir.proofs.Pictured.{reads_earlier}
use Rattle.pointwise_eval.specs.Needs.{image_count}
use Rattle.pointwise_eval.proofs.Marks.{are_needs}
use Rattle.pointwise_eval.proofs.need.mark_all.Goals as goal

pub mark_reads-requires-clause-earlier : goal.mark_reads-requires-clause-earlier
mark_reads-requires-clause-earlier c = λ k e there.
    let listed = rw c.images-images.ensures at there in
    rw c.inputs-inputs.ensures (reads_earlier c.args.ir.now c.law.ensures k e listed)

pub returns : goal.returns
returns c =
    let p = c.args.ir.now in
    let outputs = rw (c.inputs-inputs.ensures, c.images-images.ensures, c.outputs.ensures) at c.mark_outputs.ensures in
    let closed = rw (c.inputs-inputs.ensures, c.images-images.ensures) at c.mark_reads.ensures.closed in
    are_needs p c.mark_reads.new.until (c.mark_reads.auto.until ∙ c.mark_outputs.auto.until ∙ c.requires) (λ k d lt. c.mark_reads.ensures.kept (image_count p) _ (outputs k d lt)) closed
