use Rattle.net_build.specs.Draft.{IsCounted}
use Rattle.net_build.proofs.finish.counted.Given as goal

abbrev pub invariant-loop-k : goal.invariant-loop-k
invariant-loop-k l = IsCounted l.order.items l.k
