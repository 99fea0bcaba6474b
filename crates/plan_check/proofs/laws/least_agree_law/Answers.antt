use Rattle.std.proofs.Common.{arith}
use Rattle.plan_check.specs.Holding.{delays}
use Rattle.plan_check.proofs.laws.least_agree_law.Goals as goal

pub returns : goal.returns
returns c = λ s r d least causal fewest. omega (arith, least.least d causal, fewest (delays r) least.causal, least.bits_are)
