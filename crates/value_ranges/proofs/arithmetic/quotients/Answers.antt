use Rattle.std.proofs.Common.{rules}
use Rattle.value_ranges.proofs.Ends.{quotient_between}
use Rattle.value_ranges.proofs.arithmetic.quotients.Goals as goal

pub returns-clause-within : goal.returns-clause-within
returns-clause-within c = λ v is. quotient_between c.args.range _ v c.args.by (search rules) (search rules) (search rules) is
