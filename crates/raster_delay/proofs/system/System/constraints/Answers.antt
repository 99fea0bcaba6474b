use Rattle.std.proofs.Common.{◌∙◌}
use Rattle.raster_delay.proofs.Places.{system_form}
use Rattle.raster_delay.proofs.Within.{forward_all}
use Rattle.raster_delay.proofs.system.System.constraints.Goals as goal

pub returns-clause-forward : goal.returns-clause-forward
returns-clause-forward c = rw (c.deref.ensures.value ∙ c.self.invariant.constraints_are) (forward_all _ _ _ _ _ _ (system_form _ c.self.invariant.system))
