use Rattle.std.proofs.Common.{rules}
use Rattle.value_ranges.proofs.Ends.{least_between}
use Rattle.value_ranges.proofs.arithmetic.minimum.Goals as goal

pub returns-clause-within : goal.returns-clause-within
returns-clause-within c = λ v u is also. least_between c.args.left c.args.right _ v u (search rules) (search rules) is also
