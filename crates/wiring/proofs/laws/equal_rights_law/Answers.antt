use Rattle.wiring.proofs.Same.{same_right}
use Rattle.wiring.proofs.laws.equal_rights_law.Goals as goal

pub returns : goal.returns
returns c a b h = same_right a b h
