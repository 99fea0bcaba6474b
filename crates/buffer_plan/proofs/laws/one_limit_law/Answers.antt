use Rattle.buffer_plan.proofs.Once.{vector_once, limits_apart, fault_once}
use Rattle.buffer_plan.proofs.laws.one_limit_law.Goals as goal

pub returns-clause-vector : goal.returns-clause-vector
returns-clause-vector c = vector_once

pub returns-clause-apart : goal.returns-clause-apart
returns-clause-apart c = limits_apart

pub returns-clause-fault : goal.returns-clause-fault
returns-clause-fault c = fault_once
