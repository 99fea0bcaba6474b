use Rattle.std.proofs.Common.{◌^◌, rules}
use Rattle.std.proofs.lemmas.Nat.{pow_pos}
use Rattle.value_ranges.proofs.Ends.{lowered_between}
use Rattle.value_ranges.proofs.arithmetic.lowered.Goals as goal

pub returns-clause-within : goal.returns-clause-within
returns-clause-within c = λ v is. lowered_between c.args.range _ v (2 ^ c.args.by) (pow_pos c.args.by) (search rules) (search rules) is
