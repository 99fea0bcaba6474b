use lib.Count
use Rattle.std.proofs.Common.{refl}
use Rattle.dk_base.specs.Numbers.{code, number}
use Rattle.worked_tests.proofs.numbers.worked_numbers.Goals as goal

pub returns-clause-wrapped : goal.returns-clause-wrapped
unfolding code number
returns-clause-wrapped c = refl

pub returns-clause-saturated : goal.returns-clause-saturated
returns-clause-saturated c = refl

pub returns-clause-wrapped_unsigned : goal.returns-clause-wrapped_unsigned
unfolding code number
returns-clause-wrapped_unsigned c = refl

pub returns-clause-saturated_unsigned : goal.returns-clause-saturated_unsigned
returns-clause-saturated_unsigned c = refl

pub returns-clause-bits : goal.returns-clause-bits
unfolding lib.Count.count_leading_zeros
returns-clause-bits c = refl
