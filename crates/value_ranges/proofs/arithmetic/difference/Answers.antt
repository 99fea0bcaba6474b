use Rattle.std.proofs.Common.{rules, None, ◌≡◌, ◌-ℤ◌}
use Rattle.value_ranges.specs.Ranges.{spanning}
use Rattle.value_ranges.proofs.Spans.{span_some, span_high}
use Rattle.value_ranges.proofs.arithmetic.difference.Goals as goal

pub returns-in_err-greatest-clause-exact : goal.returns-in_err-greatest-clause-exact
returns-in_err-greatest-clause-exact c =
    let none : None ≡ spanning (c.args.left.least -ℤ c.args.right.greatest) (c.args.left.greatest -ℤ c.args.right.least) = span_high _ _ (search rules) in
    search rules

pub returns-clause-exact : goal.returns-clause-exact
returns-clause-exact c = span_some _ _ _ (search rules) (search rules) (search rules) (search rules)
