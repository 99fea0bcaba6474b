use Rattle.std.proofs.Common.{rules}
use Rattle.std.proofs.Common.{refl}
use Rattle.value_ranges.proofs.Spans.{magnitudes_both}
use Rattle.value_ranges.proofs.arithmetic.magnitude.Goals as goal

pub returns-clause-exact : goal.returns-clause-exact
returns-clause-exact c = magnitudes_both c.args.range c.in_ok-negated.negated _ (search rules) (search rules) (search rules) (search rules) refl (search rules)
