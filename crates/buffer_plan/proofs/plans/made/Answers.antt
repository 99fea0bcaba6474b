use Rattle.std.proofs.Common.{◌≡◌, ◌∙◌}
use Rattle.buffer_plan.proofs.plans.made.Goals as goal

pub invariant_of-result : goal.invariant_of-result
invariant_of-result c =
    let s = c.args.system.now in
    let outputs : c.in_ok-outputs.outputs.items ≡ s.stencils.outputs = c.in_ok-outputs.ensures.items ∙ c.outputs.ensures in
    let images : c.in_ok-images.images.items ≡ s.stencils.images = c.in_ok-images.ensures.items ∙ c.images.ensures in
    let reads : c.in_ok-reads.reads.items ≡ s.stencils.reads = c.in_ok-reads.ensures.items ∙ c.reads.ensures in
    rw (c.width.ensures, c.height.ensures, c.inputs.ensures, outputs, images, reads, c.age.ensures, c.in_ok-delays.ensures.items) (record {
      plan = c.requires.plan;
      one_depth_each = c.in_ok-depths.ensures.length;
      depths_are = c.in_ok-depths.ensures.depths;
      one_list_each = c.in_ok-ages.ensures.length;
      ages_are = c.in_ok-ages.ensures.ages;
      latency_is = c.requires.latency;
      bits_are = c.requires.bits;
    })
