use Rattle.wiring.proofs.Next.{has_one_next}
use Rattle.wiring.proofs.laws.one_next_law.Goals as goal

pub returns : goal.returns
returns c m rules = has_one_next m rules
