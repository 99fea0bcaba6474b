use Rattle.std.proofs.Common.{rules}
use Rattle.value_ranges.proofs.Spans.{span_some}
use Rattle.value_ranges.proofs.arithmetic.sum.Goals as goal

pub returns-clause-exact : goal.returns-clause-exact
returns-clause-exact c = span_some _ _ _ (search rules) (search rules) (search rules) (search rules)
