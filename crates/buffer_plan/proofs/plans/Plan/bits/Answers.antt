use Rattle.std.proofs.Common.{◌∙◌, ap}
use Rattle.buffer_plan.specs.Plans.{bits_of}
use Rattle.buffer_plan.proofs.plans.Plan.bits.Goals as goal

pub returns : goal.returns
returns c = c.self.invariant.bits_are ∙ ap bits_of c.self.view_is
