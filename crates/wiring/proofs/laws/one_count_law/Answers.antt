use Rattle.wiring.proofs.BitCounts.{same_count}
use Rattle.wiring.proofs.laws.one_count_law.Goals as goal

pub returns : goal.returns
returns c m a b x y = same_count m a b x y
