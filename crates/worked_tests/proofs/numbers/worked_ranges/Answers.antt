use Rattle.std.proofs.Common.{refl}
use Rattle.dk_base.specs.Numbers.{code, number}
use Rattle.worked_tests.proofs.numbers.worked_ranges.Goals as goal

pub returns-clause-over : goal.returns-clause-over
unfolding code number
returns-clause-over c = refl

pub returns-clause-under : goal.returns-clause-under
unfolding code number
returns-clause-under c = refl

pub returns-clause-over_unsigned : goal.returns-clause-over_unsigned
unfolding code number
returns-clause-over_unsigned c = refl

pub returns-clause-under_unsigned : goal.returns-clause-under_unsigned
unfolding code number
returns-clause-under_unsigned c = refl
