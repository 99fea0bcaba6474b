use Rattle.dk_top.proofs.Performed.{of_work}
use Rattle.dk_top.proofs.work.performed.Goals as goal

pub returns-in-Ok-clause-performs : goal.returns-in-Ok-clause-performs
returns-in-Ok-clause-performs g c = of_work _ _ _ _ c.in-Ok.ensures

pub returns-in-Err-clause-performs : goal.returns-in-Err-clause-performs
returns-in-Err-clause-performs g c = of_work _ _ _ _ c.in-Err.ensures
