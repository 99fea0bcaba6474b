use Rattle.std.proofs.Common.{refl, rules}
use Rattle.value_ranges.proofs.Ends.{common_between}
use Rattle.value_ranges.proofs.arithmetic.common_bits.Goals as goal

pub returns-clause-within : goal.returns-clause-within
returns-clause-within c = λ v u is also. common_between c.args.left c.args.right _ v u (search rules) (search rules) refl (search rules) is also
