use Rattle.dk_compile.proofs.Widened.{only_limits, one_reason}
use Rattle.dk_compile.proofs.widening.one_widening_law.Goals as goal

pub returns-clause-reason : goal.returns-clause-reason
returns-clause-reason c = one_reason

pub returns-clause-able : goal.returns-clause-able
returns-clause-able c = only_limits
