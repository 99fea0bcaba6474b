use Rattle.std.proofs.Common.{arith, ap}
use Rattle.std.proofs.lemmas.Int.{ints}
use Rattle.raster_delay.specs.declared.network.Constraint.{Constraint}
use Rattle.plan_check.proofs.flow.price_of.Goals as goal

pub price-requires-clause-low : goal.price-requires-clause-low
price-requires-clause-low c = omega (arith, ints, ap (λ (k : Constraint). k.cost) c.constraint_of.ensures, c.constraint_law.ensures.cost.0, c.constraint_law.ensures.cost.1)

pub price-requires-clause-high : goal.price-requires-clause-high
price-requires-clause-high c = omega (arith, ints, ap (λ (k : Constraint). k.cost) c.constraint_of.ensures, c.constraint_law.ensures.cost.0, c.constraint_law.ensures.cost.1)
