use Rattle.std.proofs.Common.{rules}
use Rattle.value_ranges.proofs.Ends.{saturated_between}
use Rattle.value_ranges.proofs.arithmetic.clamped.Goals as goal

pub returns-clause-within : goal.returns-clause-within
returns-clause-within c = λ v is. saturated_between c.args.ty c.args.range _ v c.requires (search rules) (search rules) is
