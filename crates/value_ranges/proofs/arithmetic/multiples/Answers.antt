use Rattle.std.proofs.Common.{refl, rules, ◌≡◌, ◌*ℤ◌, to_z, of_z}
use mir.Syntax.{w128}
use Rattle.value_ranges.proofs.Ends.{right_product, moved}
use Rattle.value_ranges.proofs.Spans.{pair_some}
use Rattle.value_ranges.proofs.arithmetic.multiples.Goals as goal

pub returns-clause-within : goal.returns-clause-within
returns-clause-within c = λ v is.
    let one : to_z w128 (of_z w128 c.in_ok-one.one) ≡ c.args.factor *ℤ c.args.range.least = search rules in
    let other : to_z w128 (of_z w128 c.in_ok-other.other) ≡ c.args.factor *ℤ c.args.range.greatest = search rules in
    right_product c.join.result c.args.range.least c.args.range.greatest c.args.factor v is.least is.greatest
    (moved _ _ _ one (c.join.ensures.this _ ((c.of_value.ensures.values _).1 refl)))
    (moved _ _ _ other (c.join.ensures.other _ ((c.of_value-2.ensures.values _).1 refl)))

pub returns-clause-exact : goal.returns-clause-exact
returns-clause-exact c = pair_some (c.args.factor *ℤ c.args.range.least) (c.args.factor *ℤ c.args.range.greatest) _ (search rules) (search rules) (search rules) (search rules)
