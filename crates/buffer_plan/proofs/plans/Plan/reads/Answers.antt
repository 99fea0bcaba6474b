use Rattle.buffer_plan.proofs.plans.Plan.reads.Goals as goal

pub reads_by-requires : goal.reads_by-requires
reads_by-requires c = rw c.deref.ensures.value c.self.invariant.plan.system.stencils.reads.in_order
