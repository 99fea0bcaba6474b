use Rattle.std.proofs.Common.{rules, None, ◌≡◌}
use Rattle.std.specs.Prelude.{FitsSigned}
use Rattle.std.proofs.lemmas.Int.{to_z-of_z}
use mir.Syntax.{w128}
use Rattle.value_ranges.proofs.Ends.{left_product}
use Rattle.value_ranges.proofs.Spans.{products_some, products_none_first, products_none_last}
use Rattle.value_ranges.specs.Ranges.{products}
use Rattle.value_ranges.proofs.arithmetic.product.Goals as goal

pub returns-clause-within : goal.returns-clause-within
returns-clause-within c = λ v u is also.
    let least : FitsSigned w128 c.args.left.least = search rules in
    let greatest : FitsSigned w128 c.args.left.greatest = search rules in
    let one = rw (to_z-of_z w128 c.args.left.least least) at (c.in_ok-one.ensures.within u also) in
    let other = rw (to_z-of_z w128 c.args.left.greatest greatest) at (c.in_ok-other.ensures.within u also) in
    left_product c.join.result c.args.left.least c.args.left.greatest v u is.least is.greatest (c.join.ensures.this _ one) (c.join.ensures.other _ other)

pub returns-clause-exact : goal.returns-clause-exact
returns-clause-exact c =
    let least : FitsSigned w128 c.args.left.least = search rules in
    let greatest : FitsSigned w128 c.args.left.greatest = search rules in
    products_some c.args.left c.args.right c.in_ok-one.one c.in_ok-other.other _
    (rw (to_z-of_z w128 c.args.left.least least) at c.in_ok-one.ensures.exact)
    (rw (to_z-of_z w128 c.args.left.greatest greatest) at c.in_ok-other.ensures.exact)
    (search rules) (search rules)

pub returns-in_err-one-clause-exact : goal.returns-in_err-one-clause-exact
returns-in_err-one-clause-exact c =
    let least : FitsSigned w128 c.args.left.least = search rules in
    let none : None ≡ products c.args.left c.args.right = products_none_first c.args.left c.args.right (rw (to_z-of_z w128 c.args.left.least least) at c.in_err-one.ensures.exact) in
    search rules

pub returns-in_err-other-clause-exact : goal.returns-in_err-other-clause-exact
returns-in_err-other-clause-exact c =
    let greatest : FitsSigned w128 c.args.left.greatest = search rules in
    let none : None ≡ products c.args.left c.args.right = products_none_last c.args.left c.args.right (rw (to_z-of_z w128 c.args.left.greatest greatest) at c.in_err-other.ensures.exact) in
    search rules
