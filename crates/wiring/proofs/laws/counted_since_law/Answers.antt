use Rattle.wiring.proofs.CountedClocks.{since, reset_before}
use Rattle.wiring.proofs.laws.counted_since_law.Goals as goal

pub returns-clause-counted : goal.returns-clause-counted
returns-clause-counted c m clocks r before e all = since m clocks r before e all

pub returns-clause-reset : goal.returns-clause-reset
returns-clause-reset c clocks r before e = reset_before clocks r before e
